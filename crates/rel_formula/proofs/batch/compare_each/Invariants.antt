use Rattle.rel_formula.proofs.Prelude.{◌≡◌, ℕ, ◌<◌, false, length, get_or, pos, compare}
use Rattle.rel_formula.proofs.batch.compare_each.Given as goal

abbrev pub invariant-loop-k : goal.invariant-loop-k
invariant-loop-k l = record {
  len : length l.made ≡ 16;
  done : (i : ℕ) → i < l.k → get_or l.made i false ≡ compare l.operator (get_or l.xs i (pos 0)) (get_or l.ys i (pos 0));
}
