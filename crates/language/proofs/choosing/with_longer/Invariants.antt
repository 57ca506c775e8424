use Rattle.language.proofs.Prelude.{◌≡◌, ◌+◌, ◌-◌, ◌++◌, ◌∷◌, [], map, All, range_with_len, Scope, variables_in, longer_by}
use Rattle.language.proofs.choosing.with_longer.Given as goal

abbrev pub invariant-loop-v : goal.invariant-loop-v
invariant-loop-v l = record {
  is : map variables_in l.initial.longer.items ++ longer_by l.fn.n 0 (variables_in l.fn.scope) ≡
      map variables_in l.longer.items ++ map (λ y. variables_in l.fn.scope ++ y ∷ []) (range_with_len l.v (l.fn.n - l.v));
  size : All (λ (s : Scope). s.size ≡ l.fn.scope.size + 1) l.initial.longer.items → All (λ (s : Scope). s.size ≡ l.fn.scope.size + 1) l.longer.items;
}
