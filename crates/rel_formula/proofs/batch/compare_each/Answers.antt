use Rattle.rel_formula.proofs.Prelude.{◌≡◌, ℕ, ◌<◌, false, length, get_or, pos, w64, SFits, rules, arith, ◌∙◌, to_z-of_z, length-set, compare}
use Rattle.rel_formula.proofs.Rows.{row_more}
use Rattle.rel_formula.proofs.batch.compare_each.Goals as goal

pub loop-k-preserved : goal.loop-k-preserved
loop-k-preserved c =
    let k : ℕ = c.loop-k.k in
    let low : k < length c.loop-k.made = omega (arith, c.loop-k.invariant.len) in
    let x_fits : SFits w64 (get_or c.args.xs.now k (pos 0)) = search rules in
    let y_fits : SFits w64 (get_or c.args.ys.now k (pos 0)) = search rules in
    let first = to_z-of_z w64 (get_or c.args.xs.now k (pos 0)) x_fits in
    let second = to_z-of_z w64 (get_or c.args.ys.now k (pos 0)) y_fits in
    record {
      len = length-set c.loop-k.made k c.compare.result ∙ c.loop-k.invariant.len;
      done = row_more (λ i b. b ≡ compare c.args.operator (get_or c.args.xs.now i (pos 0)) (get_or c.args.ys.now i (pos 0))) false c.loop-k.made k c.compare.result low c.loop-k.invariant.done
          (c.compare.ensures ∙ λ i. compare c.args.operator (first i) (second i));
    }
