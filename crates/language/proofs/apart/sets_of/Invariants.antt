use Rattle.language.proofs.Prelude.{◌≡◌, map, take, variables_in}
use Rattle.language.proofs.apart.sets_of.Given as goal

abbrev pub invariant-loop-scope : goal.invariant-loop-scope
invariant-loop-scope l = l.sets.items ≡ map variables_in (take l.scope-index l.scopes)
