use Rattle.language.proofs.Prelude.{◌≡◌, drop, have_same_ranges}
use Rattle.language.proofs.narrow.have_same_ranges.Given as goal

abbrev pub invariant-loop-i : goal.invariant-loop-i
invariant-loop-i l = have_same_ranges l.ranges l.scope l.other ≡ have_same_ranges l.ranges (drop l.i l.scope) (drop l.i l.other)
