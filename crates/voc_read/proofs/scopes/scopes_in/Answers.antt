use Rattle.voc_read.proofs.Prelude.{arith, length-append, err_from_is_err_and}
use Rattle.voc_read.proofs.ScopeSteps.{Listed, reads_one_more, reads_no_more, reads_all}
use Rattle.voc_read.proofs.scopes.scopes_in.Goals as goal

pub loop-i-preserved : goal.loop-i-preserved
loop-i-preserved c = rw c.in_ok-push.ensures.items record {
  each = omega (arith, c.loop-i.invariant.each, length-append {A = Listed});
  rest = reads_one_more _ _ _ _ _ _ _ c.loop-i-test.true c.index-list-i.is c.in_ok-scope.ensures c.loop-i.invariant.rest;
}

pub returns-in_err-scope-clause-is : goal.returns-in_err-scope-clause-is
returns-in_err-scope-clause-is c =
    let p = err_from_is_err_and c.from_residual.result c.from_residual.ensures.1 in
    rw (p.1, p.2) (λ real. reads_no_more _ _ _ _ _ _ _ c.loop-i-test.true c.index-list-i.is (c.in_err-scope.ensures real) c.loop-i.invariant.rest)

pub returns-clause-is : goal.returns-clause-is
returns-clause-is c = reads_all _ _ _ _ _ c.loop-i-test.false c.loop-i.invariant.rest
