use Rattle.query_gen.proofs.Prelude.{◌≡◌, map, take, length, number_of, numbers}
use Rattle.query_gen.proofs.screen.first_numbers.Given as goal

abbrev pub invariant-loop-scope : goal.invariant-loop-scope
invariant-loop-scope l = l.first.items ≡ map (λ scope. number_of l.lang (record { scope = scope; rel = 0 })) (take l.scope (numbers (length l.lang.scopes)))
