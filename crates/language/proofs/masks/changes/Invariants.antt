use Rattle.language.proofs.Prelude.{◌≡◌, ◌+◌, ◌==◌, slice_index_or, bit_at, changes_of}
use Rattle.language.proofs.masks.changes.Given as goal

abbrev pub invariant-loop-x : goal.invariant-loop-x
invariant-loop-x l = l.changes ≡ changes_of (λ x. bit_at (slice_index_or l.masks (l.at + x) 0) l.bit == 1) l.x
