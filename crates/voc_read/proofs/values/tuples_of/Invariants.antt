use Rattle.voc_read.proofs.Prelude.{◌≡◌, ◌++◌, drop, length, option_map, items_view, lists, number_list, each_of}
use Rattle.voc_read.proofs.values.tuples_of.Given as goal

abbrev pub invariant-loop-value : goal.invariant-loop-value
invariant-loop-value l = record {
  each : length l.tuples.items ≡ l.value-index;
  rest : option_map (λ more. lists l.tuples.items ++ more) (each_of number_list (items_view (drop l.value-index l.list))) ≡ each_of number_list (items_view l.list);
}
