use Rattle.rel_formula.proofs.Prelude.{◌≡◌, ℕ, ◌<◌, ℤ, Some, length, get_or, pos, w64, to_z, of_z, SFits, rules, arith, ap, sym, ◌∙◌, to_z-of_z, length-set, fitting}
use Rattle.rel_formula.proofs.Rows.{row_more, fitting-of}
use Rattle.rel_formula.proofs.batch.copy_each.Goals as goal

pub loop-k-preserved : goal.loop-k-preserved
loop-k-preserved c =
    let k : ℕ = c.loop-k.k in
    let low : k < length c.loop-k.made = omega (arith, c.loop-k.invariant.len) in
    let x : ℤ = get_or c.args.xs.now k (pos 0) in
    let fits : SFits w64 x = search rules in
    let same : to_z w64 (of_z w64 x) ≡ x = to_z-of_z w64 x fits in
    record {
      len = length-set c.loop-k.made k (to_z w64 (of_z w64 x)) ∙ c.loop-k.invariant.len;
      done = row_more (λ i y. fitting (get_or c.args.xs.now i (pos 0)) ≡ Some y) (pos 0) c.loop-k.made k (to_z w64 (of_z w64 x)) low c.loop-k.invariant.done
          (fitting-of x fits ∙ ap (λ y. Some y) (sym same));
    }
