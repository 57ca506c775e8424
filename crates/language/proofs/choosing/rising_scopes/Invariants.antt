use Rattle.language.proofs.Prelude.{◌≡◌, map, All, Scope, variables_in, rising_lists}
use Rattle.language.proofs.choosing.rising_scopes.Given as goal

abbrev pub invariant-loop-shorter : goal.invariant-loop-shorter
invariant-loop-shorter l = record {
  is : map variables_in l.scopes.items ≡ rising_lists l.n l.shorter;
  sized : All (λ (s : Scope). s.size ≡ l.shorter) l.scopes.items;
}
