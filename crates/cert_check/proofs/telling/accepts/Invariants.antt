use Rattle.cert_check.proofs.Prelude.{◌≡◌, take, true, not, list_all, violates}
use Rattle.cert_check.proofs.telling.accepts.Given as goal

abbrev pub invariant-loop-i : goal.invariant-loop-i
invariant-loop-i l = list_all (λ c. not (violates l.fn.lang c l.fn.q)) (take l.i l.net) ≡ true
