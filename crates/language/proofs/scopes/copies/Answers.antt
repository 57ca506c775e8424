use Rattle.language.proofs.Prelude.{◌≤◌, List, ◌∙◌, ap, subst, sym, All, All-push, Scope, variables_in}
use Rattle.language.proofs.Filled.{filled_more}
use Rattle.language.proofs.scopes.copies.Goals as goal

pub loop-scope-preserved : goal.loop-scope-preserved
loop-scope-preserved c =
    let Sized : Scope → Type 0 = λ scope. (1 ≤ scope.size) × (scope.size ≤ 4) in
    record {
      is = filled_more variables_in (λ scope. scope.items) c.loop-scope.scopes.items _ c.to_scope.result c.args.listed.now c.loop-scope.scope-index c.scope-item.result c.in_ok-push.ensures.items c.loop-scope-test.true c.loop-scope.invariant.is
          (c.to_scope.ensures.is ∙ c.as_slice.ensures ∙ ap (λ scope. scope.items) c.scope-item.is);
      sized = subst (All Sized) (sym {A = List Scope} c.in_ok-push.ensures.items) (All-push Sized c.loop-scope.scopes.items c.to_scope.result c.loop-scope.invariant.sized (c.to_scope.ensures.some, c.to_scope.ensures.few));
    }
