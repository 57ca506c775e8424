use Rattle.rel_formula.proofs.Prelude.{◌≡◌, ℕ, ◌<◌, Some, length, get_or, pos, fitting}
use Rattle.rel_formula.proofs.batch.copy_each.Given as goal

abbrev pub invariant-loop-k : goal.invariant-loop-k
invariant-loop-k l = record {
  len : length l.made ≡ 16;
  done : (i : ℕ) → i < l.k → fitting (get_or l.xs i (pos 0)) ≡ Some (get_or l.made i (pos 0));
}
