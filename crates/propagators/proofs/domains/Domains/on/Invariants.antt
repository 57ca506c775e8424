use Rattle.propagators.proofs.Prelude.{◌≡◌, length, map, take, ones_of, sets_on}
use Rattle.propagators.proofs.domains.Domains.on.Given as goal

abbrev pub invariant-loop-j : goal.invariant-loop-j
invariant-loop-j l = (length l.sets ≡ 4) × (take l.j (map ones_of l.sets) ≡ sets_on l.self (take l.j l.scope))
