use Rattle.language.proofs.Prelude.{◌≡◌, drop, length, are_in, tuple_at}
use Rattle.language.proofs.narrow.lies_within.Given as goal

abbrev pub invariant-loop-i : goal.invariant-loop-i
invariant-loop-i l = are_in l.ranges l.scope (tuple_at l.d (length l.scope) l.place) ≡ are_in l.ranges (drop l.i l.scope) (drop l.i (tuple_at l.d (length l.scope) l.place))
