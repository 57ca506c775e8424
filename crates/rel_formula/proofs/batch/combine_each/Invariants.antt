use Rattle.rel_formula.proofs.Prelude.{◌≡◌, ℕ, ◌<◌, ◌≤◌, Some, length, get_or, pos, combine, fitting}
use Rattle.rel_formula.proofs.batch.combine_each.Given as goal

abbrev pub invariant-loop-k : goal.invariant-loop-k
invariant-loop-k l = record {
  len : length l.xs ≡ 16;
  done : (i : ℕ) → i < l.k → fitting (combine l.operator (get_or l.initial.xs i (pos 0)) (get_or l.ys i (pos 0))) ≡ Some (get_or l.xs i (pos 0));
  left : (i : ℕ) → l.k ≤ i → get_or l.xs i (pos 0) ≡ get_or l.initial.xs i (pos 0);
}
