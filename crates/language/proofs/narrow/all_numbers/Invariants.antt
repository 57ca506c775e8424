use Rattle.language.proofs.Prelude.{◌≡◌, range_with_len}
use Rattle.language.proofs.narrow.all_numbers.Given as goal

abbrev pub invariant-loop-k : goal.invariant-loop-k
invariant-loop-k l = l.numbers.items ≡ range_with_len 0 l.k
