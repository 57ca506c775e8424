use Rattle.propagators.proofs.Prelude.{◌<◌, ◌≤◌, ℕ, ◌==◌, slice_index_or, bit_at, rejected_of, is_wanted}
use Rattle.propagators.proofs.pairs.most_rejected.Given as goal

abbrev pub invariant-loop-x : goal.invariant-loop-x
invariant-loop-x l = (x : ℕ) → x < l.x → rejected_of l.d (λ y. is_wanted l.holding (bit_at (slice_index_or l.masks x 0) y == 1)) ≤ l.most
