use Rattle.propagators.proofs.Prelude.{◌≡◌, ◌+◌, ◌*◌, ◌&&◌, ℕ, true, not, has, ones_of, is_wanted, truth_at}
use Rattle.propagators.proofs.openings.in_steps.Given as goal

abbrev pub invariant-loop-rest : goal.invariant-loop-rest
invariant-loop-rest l = record {
  part : (y : ℕ) → has (ones_of l.rest) y ≡ true → has (ones_of l.values) y ≡ true;
  goes : (y : ℕ) → has (ones_of l.found) y ≡ (has (ones_of l.values) y && (not (has (ones_of l.rest) y) && is_wanted l.holding (truth_at l.table (l.first + y * l.step))));
}

abbrev pub decreases-loop-rest : goal.decreases-loop-rest
decreases-loop-rest l = l.rest
