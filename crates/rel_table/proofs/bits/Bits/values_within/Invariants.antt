use Rattle.rel_table.proofs.Prelude.{◌≡◌, ℕ, ◌<◌, get_or, true, false}
use Rattle.rel_table.proofs.BitLemmas.{follows}
use Rattle.rel_table.proofs.bits.Bits.values_within.Given as goal

abbrev pub invariant-loop-at : goal.invariant-loop-at
invariant-loop-at l = (k : ℕ) → k < l.at → follows (get_or l.self k false, get_or l.other k false) ≡ true
