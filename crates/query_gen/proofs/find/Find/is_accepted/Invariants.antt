use Rattle.query_gen.proofs.Prelude.{◌≡◌, take, true, not, list_all, violates}
use Rattle.query_gen.proofs.find.Find.is_accepted.Given as goal

abbrev pub invariant-loop-c : goal.invariant-loop-c
invariant-loop-c l = list_all (λ c. not (violates l.fn.lang c l.fn.self.question)) (take l.c-index l.fn.list) ≡ true
