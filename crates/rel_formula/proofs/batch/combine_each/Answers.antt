use Rattle.rel_formula.proofs.Prelude.{◌≡◌, ℕ, ◌<◌, ℤ, Some, length, get_or, pos, w64, to_z, of_z, SFits, rules, arith, ap, sym, ◌∙◌, to_z-of_z, length-set, combine, fitting}
use Rattle.rel_formula.proofs.Rows.{row_more, row_left}
use Rattle.rel_formula.proofs.batch.combine_each.Goals as goal

pub loop-k-preserved : goal.loop-k-preserved
loop-k-preserved c =
    let k : ℕ = c.loop-k.k in
    let low : k < length c.loop-k.xs = omega (arith, c.loop-k.invariant.len) in
    let fits : SFits w64 c.in_ok-xs.field-0 = search rules in
    let x_fits : SFits w64 (get_or c.loop-k.xs k (pos 0)) = search rules in
    let y_fits : SFits w64 (get_or c.args.ys.now k (pos 0)) = search rules in
    let x : ℤ = to_z w64 (of_z w64 c.in_ok-xs.field-0) in
    let first = to_z-of_z w64 (get_or c.loop-k.xs k (pos 0)) x_fits ∙ c.loop-k.invariant.left k (omega arith) in
    let second = to_z-of_z w64 (get_or c.args.ys.now k (pos 0)) y_fits in
    let here : fitting (combine c.args.operator (get_or c.args.xs.now k (pos 0)) (get_or c.args.ys.now k (pos 0))) ≡ Some x =
    (λ i. fitting (combine c.args.operator (sym first i) (sym second i))) ∙ sym c.combine.ensures ∙ c.in_ok-xs.was ∙ ap (λ y. Some y) (sym (to_z-of_z w64 c.in_ok-xs.field-0 fits)) in
    record {
      len = length-set c.loop-k.xs k x ∙ c.loop-k.invariant.len;
      done = row_more (λ i y. fitting (combine c.args.operator (get_or c.args.xs.now i (pos 0)) (get_or c.args.ys.now i (pos 0))) ≡ Some y) (pos 0) c.loop-k.xs k x low c.loop-k.invariant.done here;
      left = row_left (pos 0) c.loop-k.xs c.args.xs.now k x c.loop-k.invariant.left;
    }
