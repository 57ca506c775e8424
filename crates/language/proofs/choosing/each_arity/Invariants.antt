use Rattle.language.proofs.Prelude.{◌≡◌, ◌≤◌, ◌-◌, ◌++◌, map, All, flat_map, range_with_len, Scope, variables_in, given_by, all_scopes}
use Rattle.language.proofs.Used.{of_arity}
use Rattle.language.proofs.choosing.each_arity.Given as goal

abbrev pub invariant-loop-arity : goal.invariant-loop-arity
invariant-loop-arity l = record {
  is : all_scopes l.n (map given_by l.rels) ≡ map variables_in l.scopes.items ++ flat_map (of_arity l.n (map given_by l.rels)) (range_with_len l.arity (5 - l.arity));
  sized : All (λ (s : Scope). (1 ≤ s.size) × (s.size ≤ 4)) l.scopes.items;
}
