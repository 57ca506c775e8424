use Rattle.cert_check.proofs.Prelude.{◌≡◌, ℕ, map, Vec, Global, numbers, items_on}
use Rattle.cert_check.proofs.by_variable.ByVariable.of.Given as goal

abbrev pub invariant-loop-v : goal.invariant-loop-v
invariant-loop-v l = map (λ (row : Vec ℕ Global). row.items) l.rows.items ≡ map (items_on l.fn.lang l.fn.net) (numbers l.v)
