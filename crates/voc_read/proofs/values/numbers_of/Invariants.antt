use Rattle.voc_read.proofs.Prelude.{◌≡◌, ◌++◌, drop, option_map, items_view, whole_number, each_of}
use Rattle.voc_read.proofs.values.numbers_of.Given as goal

abbrev pub invariant-loop-value : goal.invariant-loop-value
invariant-loop-value l = option_map (λ more. l.numbers.items ++ more) (each_of whole_number (items_view (drop l.value-index l.list))) ≡ each_of whole_number (items_view l.list)
