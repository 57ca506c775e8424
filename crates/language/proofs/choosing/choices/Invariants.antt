use Rattle.language.proofs.Prelude.{◌≡◌, choices}
use Rattle.language.proofs.choosing.choices.Given as goal

abbrev pub invariant-loop : goal.invariant-loop
invariant-loop l = record {
  ones : l.ones ≡ choices l.counter 1;
  pairs : l.pairs ≡ choices l.counter 2;
  triples : l.triples ≡ choices l.counter 3;
  fours : l.fours ≡ choices l.counter 4;
}
