use Rattle.voc_read.proofs.Prelude.{◌≡◌, ◌++◌, Ok, drop, length, map, items_view, then_on, named_range, ranges_from, texts_of}
use Rattle.voc_read.proofs.ranges.ranges_in.Given as goal

abbrev pub invariant-loop-i : goal.invariant-loop-i
invariant-loop-i l = record {
  each : length l.ranges.items ≡ l.i;
  rest : then_on (ranges_from l.i l.fn.domain.least_value l.fn.domain.value_count (texts_of l.names.keys) (items_view (drop l.i l.list))) (λ more. Ok (map named_range l.ranges.items ++ more)) ≡ ranges_from 0 l.fn.domain.least_value l.fn.domain.value_count (texts_of l.names.keys) (items_view l.list);
}
