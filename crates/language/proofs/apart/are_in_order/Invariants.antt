use Rattle.language.proofs.Prelude.{◌≡◌, take, drop, All, are_nested, first_pair, pair_after}
use Rattle.language.proofs.InOrder.{IsBefore}
use Rattle.language.proofs.apart.are_in_order.Given as goal

abbrev pub invariant-loop-j : goal.invariant-loop-j
invariant-loop-j l =
    (first_pair are_nested l.sets ≡ pair_after are_nested (take l.j l.sets) (drop l.j l.sets)) × All (IsBefore l.size l.next) (take l.j l.sets)
