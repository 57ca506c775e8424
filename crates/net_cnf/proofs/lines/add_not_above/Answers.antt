use Rattle.net_cnf.proofs.Prelude.{◌≡◌, ℕ, ◌<◌, ◌+◌, ◌-◌, [], ap, arith, string_bytes, flat_map, range_with_len, append-nil, err_from_is_err_and, range_of}
use Rattle.net_cnf.proofs.Adding.{grown_next_from, too_long_from, grown_as}
use Rattle.net_cnf.proofs.Pieces.{pair_piece, row_piece}
use Rattle.net_cnf.proofs.lines.add_not_above.Goals as goal

pub returns-in_err-add_not_both : goal.returns-in_err-add_not_both
returns-in_err-add_not_both c =
    let p = err_from_is_err_and c.from_residual.result c.from_residual.ensures.1 in
    let l = c.args.lang.now in
    let f = pair_piece l c.args.v c.args.x in
    let last = c.range-last.ensures.last in
    let n : ℕ = (range_of l c.args.v).last - c.args.x in
    let low : c.loop-y.y < c.args.x + 1 + n = omega (arith, last) in
    rw (p.1, p.2)
    (too_long_from c.in_err-add_not_both.field-0.0 f (c.args.x + 1) c.loop-y.y n (string_bytes c.args.text.now) [] (row_piece l c.args.v (range_of l c.args.v).last c.args.x) (string_bytes c.loop-y.text)
    (omega arith) low c.loop-y.invariant (append-nil (flat_map f (range_with_len (c.args.x + 1) n))) c.in_err-add_not_both.ensures)

pub loop-y-preserved : goal.loop-y-preserved
loop-y-preserved c =
    grown_next_from (pair_piece c.args.lang.now c.args.v c.args.x) (c.args.x + 1) c.loop-y.y (string_bytes c.args.text.now) (string_bytes c.loop-y.text) (string_bytes c.add_not_both.new.text)
    (omega arith) c.loop-y.invariant c.in_ok-add_not_both.ensures

pub returns : goal.returns
returns c =
    let l = c.args.lang.now in
    let f = pair_piece l c.args.v c.args.x in
    let last = c.range-last.ensures.last in
    let to = c.requires.to in
    let all : c.loop-y.y - (c.args.x + 1) ≡ (range_of l c.args.v).last - c.args.x = omega (arith, last, to) in
    grown_as (string_bytes c.args.text.now) (flat_map f (range_with_len (c.args.x + 1) (c.loop-y.y - (c.args.x + 1)))) (row_piece l c.args.v (range_of l c.args.v).last c.args.x) (string_bytes c.loop-y.text)
    (ap (λ n. flat_map f (range_with_len (c.args.x + 1) n)) all) c.loop-y.invariant
