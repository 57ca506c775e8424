use Rattle.language.proofs.Prelude.{◌≡◌, ◌+◌, true, ◌==◌, nat_le, slice_index_or, list_all, bit_at, numbers, changes_of}
use Rattle.language.proofs.masks.are_running.Given as goal

abbrev pub invariant-loop-y : goal.invariant-loop-y
invariant-loop-y l = list_all (λ y. nat_le (changes_of (λ x. bit_at (slice_index_or l.masks (l.at + x) 0) y == 1) l.d) 1) (numbers l.y) ≡ true
