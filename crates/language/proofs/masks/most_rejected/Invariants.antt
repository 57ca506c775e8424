use Rattle.language.proofs.Prelude.{◌≡◌, ◌+◌, ◌==◌, slice_index_or, bit_at, rejected_of, most_of}
use Rattle.language.proofs.masks.most_rejected.Given as goal

abbrev pub invariant-loop-x : goal.invariant-loop-x
invariant-loop-x l = l.most ≡ most_of (λ x. rejected_of l.d (λ y. bit_at (slice_index_or l.masks (l.at + x) 0) y == 1)) l.x
