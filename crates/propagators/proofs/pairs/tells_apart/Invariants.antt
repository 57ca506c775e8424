use Rattle.propagators.proofs.Prelude.{◌≡◌, ◌<◌, ℕ, ◌==◌, not, slice_index_or, bit_at, is_wanted}
use Rattle.propagators.proofs.pairs.tells_apart.Given as goal

abbrev pub invariant-loop-x : goal.invariant-loop-x
invariant-loop-x l = (x y : ℕ) → x < l.x → y < l.lang.value_count → is_wanted l.holding (bit_at (slice_index_or l.rows x 0) y == 1) ≡ not (x == y)
