use Rattle.cert_check.proofs.Prelude.{length, get_or, codes, flat_map, Candidate, count_line, item_line}
use Rattle.cert_check.proofs.Finding.{within}
use Rattle.cert_check.proofs.Sheets.{adds_more, adds_next, adds_all}
use Rattle.cert_check.proofs.making.add_network.Goals as goal

pub loop-c-preserved : goal.loop-c-preserved
loop-c-preserved c =
    let d : Candidate = get_or c.args.net.now c.loop-c.c-index (record { scope = 0; rel = 0 }) in
    adds_next item_line c.args.net.now c.loop-c.c-index d c.add_count.new.sheet c.loop-c.sheet c.add_item.new.sheet c.loop-c-test.true
    (within c.args.net.now c.loop-c.c-index (record { scope = 0; rel = 0 }) d c.loop-c-test.true) c.loop-c.invariant c.in_ok-add_item.ensures

pub returns : goal.returns
returns c =
    adds_more c.args.sheet.now c.add_count.new.sheet c.loop-c.sheet (count_line (codes "network") (length c.args.net.now)) (flat_map item_line c.args.net.now) c.in_ok-add_count.ensures
    (adds_all item_line c.args.net.now c.loop-c.c-index c.add_count.new.sheet c.loop-c.sheet c.loop-c-test.false c.loop-c.invariant)
