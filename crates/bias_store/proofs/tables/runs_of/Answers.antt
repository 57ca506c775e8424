use Rattle.bias_store.proofs.Prelude.{◌-◌, get_or, refl, sym, ◌∙◌, ap, arith, none_given}
use Rattle.bias_store.proofs.Runs.{step_apart, step_on}
use Rattle.bias_store.proofs.tables.runs_of.Goals.{then-scope, else-scope}
use Rattle.bias_store.proofs.tables.runs_of.Goals as goal

pub loop-back-preserved : goal.loop-back-preserved
loop-back-preserved c =
    let l = c.args.lang.now in
    let n = c.scopes-scopes.result in
    let back = c.loop-back.back in
    let next = c.loop-back.next.items in
    elim c.if-scope.branch [
      | then-scope w ↦ record {
        runs = step_on l next n back (n - 1 - back) c.from-in-loop-back.result c.if-scope.end c.loop-back.invariant.runs c.loop-back.invariant.some c.loop-back-test.true c.scopes-scopes.ensures.is refl c.from-in-loop-back.ensures
            w.from-then-scope.result w.from-then-scope.ensures
            (w.end-is ∙ w.index.ensures ∙ ap (get_or next w.from-then-scope.result) (sym w.end-is))
            (ap (λ xs. get_or xs 0 0) (sym c.scope.ensures.is) ∙ w.if-scope.true ∙ ap (λ xs. get_or xs 0 0) c.scope-in-loop-back.ensures.is);
        some = omega arith;
      }
      | else-scope w ↦ record {
        runs = step_apart l next n back (n - 1 - back) c.from-in-loop-back.result c.if-scope.end c.loop-back.invariant.runs c.loop-back.invariant.some c.loop-back-test.true c.scopes-scopes.ensures.is refl c.from-in-loop-back.ensures w.end-is;
        some = omega arith;
      }
    ]

pub returns-in_err-next : goal.returns-in_err-next
returns-in_err-next c = none_given _ _ c.from_residual.result c.from_residual.ensures.1
