use Rattle.voc_read.proofs.Prelude.{◌≡◌, map, take, named_range, with_ranges}
use Rattle.voc_read.proofs.making.set_ranges.Given as goal

abbrev pub invariant-loop-range : goal.invariant-loop-range
invariant-loop-range l = l.frame ≡ with_ranges l.fn.frame (take l.range-index (map named_range l.ranges))
