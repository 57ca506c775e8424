use Rattle.rel_formula.proofs.Prelude.{◌≡◌, ℕ, ◌<◌, false, length, get_or, join}
use Rattle.rel_formula.proofs.batch.join_each.Given as goal

abbrev pub invariant-loop-k : goal.invariant-loop-k
invariant-loop-k l = record {
  len : length l.made ≡ 16;
  done : (i : ℕ) → i < l.k → get_or l.made i false ≡ join l.operator (get_or l.ps i false) (get_or l.qs i false);
}
