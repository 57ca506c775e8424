use Rattle.voc_read.proofs.Prelude.{◌≡◌, take, drop, first_repeat, repeat_after, texts_of}
use Rattle.voc_read.proofs.names.index_names.Given as goal

abbrev pub invariant-loop-name : goal.invariant-loop-name
invariant-loop-name l = record {
  seen : texts_of l.numbers.keys ≡ take l.name-index (texts_of l.names);
  rest : first_repeat (texts_of l.names) ≡ repeat_after (texts_of l.numbers.keys) (drop l.name-index (texts_of l.names));
}
