use Rattle.language.proofs.Prelude.{◌≡◌, take, drop, is_same, first_pair, pair_after}
use Rattle.language.proofs.apart.first_repeated.Given as goal

abbrev pub invariant-loop-j : goal.invariant-loop-j
invariant-loop-j l = first_pair is_same l.sets ≡ pair_after is_same (take l.j l.sets) (drop l.j l.sets)
