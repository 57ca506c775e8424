use Rattle.find_c.proofs.Prelude.{◌≡◌, drop, are_in}
use Rattle.find_c.proofs.choices.are_in.Given as goal

abbrev pub invariant-loop-i : goal.invariant-loop-i
invariant-loop-i l = are_in l.lang.ranges l.scope l.values ≡ are_in l.lang.ranges (drop l.i l.scope) (drop l.i l.values)
