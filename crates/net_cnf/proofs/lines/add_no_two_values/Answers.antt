use Rattle.net_cnf.proofs.Prelude.{◌≡◌, ◌<◌, ◌+◌, ◌-◌, [], ◌∙◌, ap, arith, string_bytes, flat_map, range_with_len, append-nil, err_from_is_err_and, range_of, no_two_values, clause_text}
use Rattle.net_cnf.proofs.Adding.{grown_next_from, too_long_from, grown_as}
use Rattle.net_cnf.proofs.Pieces.{row_piece, no_two_pieces}
use Rattle.net_cnf.proofs.Runs.{first_of, size_of, is_range}
use Rattle.net_cnf.proofs.lines.add_no_two_values.Goals as goal

pub returns-in_err-add_not_above : goal.returns-in_err-add_not_above
returns-in_err-add_not_above c =
    let p = err_from_is_err_and c.from_residual.result c.from_residual.ensures.1 in
    let l = c.args.lang.now in
    let f = row_piece l c.args.v (range_of l c.args.v).last in
    let range = c.range-first.ensures in
    let low : c.loop-x.x < first_of l c.args.v + size_of l c.args.v = omega (arith, range.first, range.last, range.some, range.known) in
    rw (p.1, p.2)
    (too_long_from c.in_err-add_not_above.field-0.0 f (first_of l c.args.v) c.loop-x.x (size_of l c.args.v) (string_bytes c.args.text.now) [] (flat_map clause_text (no_two_values l c.args.v)) (string_bytes c.loop-x.text)
    (omega arith) low c.loop-x.invariant (append-nil (flat_map f (range_with_len (first_of l c.args.v) (size_of l c.args.v))) ∙ no_two_pieces l c.args.v (is_range l c.args.v c.requires.lawful c.requires.variable)) c.in_err-add_not_above.ensures)

pub loop-x-preserved : goal.loop-x-preserved
loop-x-preserved c =
    let l = c.args.lang.now in
    grown_next_from (row_piece l c.args.v (range_of l c.args.v).last) (first_of l c.args.v) c.loop-x.x (string_bytes c.args.text.now) (string_bytes c.loop-x.text) (string_bytes c.add_not_above.new.text)
    (omega arith) c.loop-x.invariant c.in_ok-add_not_above.ensures

pub returns : goal.returns
returns c =
    let l = c.args.lang.now in
    let f = row_piece l c.args.v (range_of l c.args.v).last in
    let range = c.range-first.ensures in
    let all : c.loop-x.x - first_of l c.args.v ≡ size_of l c.args.v = omega (arith, range.first, range.last, range.some, range.known) in
    grown_as (string_bytes c.args.text.now) (flat_map f (range_with_len (first_of l c.args.v) (c.loop-x.x - first_of l c.args.v))) (flat_map clause_text (no_two_values l c.args.v)) (string_bytes c.loop-x.text)
    (ap (λ n. flat_map f (range_with_len (first_of l c.args.v) n)) all ∙ no_two_pieces l c.args.v (is_range l c.args.v c.requires.lawful c.requires.variable)) c.loop-x.invariant
