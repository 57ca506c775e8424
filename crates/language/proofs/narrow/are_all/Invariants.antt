use Rattle.language.proofs.Prelude.{◌≡◌, drop, list_all, is_whole_range}
use Rattle.language.proofs.narrow.are_all.Given as goal

abbrev pub invariant-loop-range : goal.invariant-loop-range
invariant-loop-range l = list_all (is_whole_range l.d) l.ranges ≡ list_all (is_whole_range l.d) (drop l.range-index l.ranges)
