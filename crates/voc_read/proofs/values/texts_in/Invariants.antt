use Rattle.voc_read.proofs.Prelude.{◌≡◌, ◌++◌, drop, length, option_map, as_str, items_view, texts_of, each_of}
use Rattle.voc_read.proofs.values.texts_in.Given as goal

abbrev pub invariant-loop-value : goal.invariant-loop-value
invariant-loop-value l = record {
  each : length l.texts.items ≡ l.value-index;
  rest : option_map (λ more. texts_of l.texts.items ++ more) (each_of as_str (items_view (drop l.value-index l.list))) ≡ each_of as_str (items_view l.list);
}
