use Rattle.target_oracle.proofs.Prelude.{◌≡◌, take, true, not, list_all, violates}
use Rattle.target_oracle.proofs.net.accepts_all.Given as goal

abbrev pub invariant-loop-c : goal.invariant-loop-c
invariant-loop-c l = list_all (λ c. not (violates l.lang c l.q)) (take l.c-index l.list) ≡ true
