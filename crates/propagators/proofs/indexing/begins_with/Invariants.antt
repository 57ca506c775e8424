use Rattle.propagators.proofs.Prelude.{◌≡◌, ◌<◌, ℕ, slice_index_or, Candidate}
use Rattle.propagators.proofs.indexing.begins_with.Given as goal

abbrev pub invariant-loop-i : goal.invariant-loop-i
invariant-loop-i l = (k : ℕ) (d : Candidate) → k < l.i → slice_index_or l.list k d ≡ slice_index_or l.front k d
