use Rattle.voc_read.proofs.Prelude.{◌≡◌, take, drop, first_repeat, repeat_after, texts_of}
use Rattle.voc_read.proofs.names.first_repeat.Given as goal

abbrev pub invariant-loop-j : goal.invariant-loop-j
invariant-loop-j l = record {
  seen : texts_of l.numbers.keys ≡ take l.j (texts_of l.names);
  rest : first_repeat (texts_of l.names) ≡ repeat_after (texts_of l.numbers.keys) (drop l.j (texts_of l.names));
}
