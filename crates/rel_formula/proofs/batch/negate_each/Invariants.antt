use Rattle.rel_formula.proofs.Prelude.{◌≡◌, ℕ, ◌<◌, false, not, length, get_or}
use Rattle.rel_formula.proofs.batch.negate_each.Given as goal

abbrev pub invariant-loop-k : goal.invariant-loop-k
invariant-loop-k l = record {
  len : length l.made ≡ 16;
  done : (i : ℕ) → i < l.k → get_or l.made i false ≡ not (get_or l.ps i false);
}
