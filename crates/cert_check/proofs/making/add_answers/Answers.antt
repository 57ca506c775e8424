use Rattle.cert_check.proofs.Prelude.{length, codes, flat_map, count_line, entry_line}
use Rattle.cert_check.proofs.Sheets.{adds_more, adds_next, adds_all}
use Rattle.cert_check.proofs.making.add_answers.Goals as goal

pub loop-entry-preserved : goal.loop-entry-preserved
loop-entry-preserved c = adds_next entry_line c.args.answers.now c.loop-entry.entry-index c.entry-item.result c.add_count.new.sheet c.loop-entry.sheet c.add_entry.new.sheet c.loop-entry-test.true c.entry-item.is c.loop-entry.invariant c.in_ok-add_entry.ensures

pub returns : goal.returns
returns c =
    adds_more c.args.sheet.now c.add_count.new.sheet c.loop-entry.sheet (count_line (codes "answers") (length c.args.answers.now)) (flat_map entry_line c.args.answers.now) c.in_ok-add_count.ensures
    (adds_all entry_line c.args.answers.now c.loop-entry.entry-index c.add_count.new.sheet c.loop-entry.sheet c.loop-entry-test.false c.loop-entry.invariant)
