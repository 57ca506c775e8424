use Rattle.voc_read.proofs.Prelude.{◌≡◌, map, take, named_range, ranged_names, texts_of}
use Rattle.voc_read.proofs.ranges.names_of.Given as goal

abbrev pub invariant-loop-range : goal.invariant-loop-range
invariant-loop-range l = texts_of l.names.items ≡ ranged_names (map named_range (take l.range-index l.ranges))
