use Rattle.language.proofs.Prelude.{◌≡◌, ◌≤◌, map, take, All, Scope, variables_in}
use Rattle.language.proofs.scopes.copies.Given as goal

abbrev pub invariant-loop-scope : goal.invariant-loop-scope
invariant-loop-scope l = record {
  is : map variables_in l.scopes.items ≡ map (λ scope. scope.items) (take l.scope-index l.listed);
  sized : All (λ (scope : Scope). (1 ≤ scope.size) × (scope.size ≤ 4)) l.scopes.items;
}
