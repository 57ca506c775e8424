use Rattle.network.proofs.Prelude.{◌≡◌, ◌++◌, drop, option_map, items_view, texts_of, each_text}
use Rattle.network.proofs.reading.texts_in.Given as goal

abbrev pub invariant-loop-value : goal.invariant-loop-value
invariant-loop-value l = option_map (λ more. texts_of l.texts.items ++ more) (each_text (items_view (drop l.value-index l.list))) ≡ each_text (items_view l.list)
