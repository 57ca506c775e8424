use Rattle.language.proofs.Prelude.{◌≡◌, ◌+◌, map, take, All, flat_map, Scope, variables_in, longer_by}
use Rattle.language.proofs.choosing.one_longer.Given as goal

abbrev pub invariant-loop-scope : goal.invariant-loop-scope
invariant-loop-scope l = record {
  is : map variables_in l.longer.items ≡ flat_map (longer_by l.n 0) (map variables_in (take l.scope-index l.scopes));
  sized : All (λ (s : Scope). s.size ≡ l.size + 1) l.longer.items;
}
