use Rattle.propagators.proofs.Prelude.{◌≡◌, ◌<◌, ◌+◌, ◌*◌, ◌/◌, ℕ, length, slice_index_or}
use Rattle.propagators.proofs.arranging.clear_sets.Given as goal

abbrev pub invariant-loop-w : goal.invariant-loop-w
invariant-loop-w l = record {
  long : length l.sets ≡ length l.fn.sets;
  before : (k v : ℕ) → k < l.from → v < 128 → slice_index_or l.sets (k / 64 * 128 + v) 0 ≡ slice_index_or l.fn.sets (k / 64 * 128 + v) 0;
}
