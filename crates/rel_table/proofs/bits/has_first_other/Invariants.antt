use Rattle.rel_table.proofs.Prelude.{◌≡◌, ℕ, ◌<◌, get_or}
use Rattle.rel_table.proofs.bits.has_first_other.Given as goal

abbrev pub invariant-loop-i : goal.invariant-loop-i
invariant-loop-i l = (k : ℕ) → k < l.i → get_or l.a k 0 ≡ get_or l.b k 0
