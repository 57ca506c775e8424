use Rattle.language.proofs.Prelude.{◌<◌, ◌∙◌, ap, sym, subst, map, All, flat_map, variables_in, longer_by}
use Rattle.language.proofs.Rising.{lists_known, lists_next}
use Rattle.language.proofs.choosing.rising_scopes.Goals as goal

pub one_longer-requires-clause-known : goal.one_longer-requires-clause-known
one_longer-requires-clause-known c =
    subst (All (All (λ v. v < c.args.n))) (sym (ap (map variables_in) c.deref.ensures.value ∙ c.loop-shorter.invariant.is)) (lists_known c.args.n c.loop-shorter.shorter)

pub loop-shorter-preserved : goal.loop-shorter-preserved
loop-shorter-preserved c = record {
  is = c.in_ok-scopes.ensures.is ∙ ap (flat_map (longer_by c.args.n 0)) (ap (map variables_in) c.deref.ensures.value ∙ c.loop-shorter.invariant.is) ∙ lists_next c.args.n c.loop-shorter.shorter;
  sized = c.in_ok-scopes.ensures.sized;
}
