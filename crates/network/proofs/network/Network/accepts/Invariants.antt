use Rattle.network.proofs.Prelude.{◌≡◌, take, true, not, list_all, violates}
use Rattle.network.proofs.network.Network.accepts.Given as goal

abbrev pub invariant-loop-c : goal.invariant-loop-c
invariant-loop-c l = list_all (λ c. not (violates l.fn.lang c l.fn.q)) (take l.c-index l.fn.self.list) ≡ true
