use Rattle.language.proofs.Prelude.{◌≡◌, ◌+◌, ◌-◌, ◌∙◌, ◌++◌, ◌∷◌, [], ap, subst, sym, map, All, range_with_len, All-push, Scope, variables_in}
use Rattle.language.proofs.Rising.{one_more}
use Rattle.language.proofs.choosing.with_longer.Goals as goal

pub loop-v-preserved : goal.loop-v-preserved
loop-v-preserved c = record {
  is = one_more _ c.loop-v.longer.items c.with_last.result (λ y. variables_in c.args.scope ++ y ∷ []) c.loop-v.v c.args.n c.loop-v-test.true c.with_last.ensures.is c.loop-v.invariant.is
      ∙ ap (λ lists. map variables_in lists ++ map (λ y. variables_in c.args.scope ++ y ∷ []) (range_with_len (c.loop-v.v + 1) (c.args.n - (c.loop-v.v + 1)))) (sym c.in_ok-push.ensures.items);
  size = λ all. subst (All (λ (s : Scope). s.size ≡ c.args.scope.size + 1)) (sym c.in_ok-push.ensures.items)
      (All-push (λ (s : Scope). s.size ≡ c.args.scope.size + 1) c.loop-v.longer.items c.with_last.result (c.loop-v.invariant.size all) c.with_last.ensures.size);
}
