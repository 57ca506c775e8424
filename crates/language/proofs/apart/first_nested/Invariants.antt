use Rattle.language.proofs.Prelude.{◌≡◌, take, drop, are_nested, first_pair, pair_after}
use Rattle.language.proofs.apart.first_nested.Given as goal

abbrev pub invariant-loop-j : goal.invariant-loop-j
invariant-loop-j l = first_pair are_nested l.sets ≡ pair_after are_nested (take l.j l.sets) (drop l.j l.sets)
