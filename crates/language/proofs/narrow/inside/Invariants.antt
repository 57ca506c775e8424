use Rattle.language.proofs.Prelude.{◌≡◌, ◌-◌, drop, length, inside}
use Rattle.language.proofs.narrow.inside.Given as goal

abbrev pub invariant-loop-k : goal.invariant-loop-k
invariant-loop-k l = l.truth.items ≡ inside l.ranges l.d (drop (length l.scope - l.k) l.scope)
