use Rattle.voc_read.proofs.Prelude.{[], ◌∷◌, ap, ◌∙◌, length, length-append, arith, ok_or, map-append, err_from_is_err_and, lists, WrongKind, number_list}
use Rattle.voc_read.proofs.EachSteps.{reads_one_more, reads_no_more, reads_all, refuses, some_of_ok}
use Rattle.voc_read.proofs.values.tuples_of.Goals as goal

pub loop-value-preserved : goal.loop-value-preserved
loop-value-preserved c = record {
  each = omega (arith, c.loop-value.invariant.each, ap length c.in_ok-push.ensures.items, length-append c.loop-value.tuples.items (c.in_ok-tuple.tuple ∷ []));
  rest = reads_one_more number_list c.args.list.now c.loop-value.value-index c.value-item.result c.in_ok-tuple.tuple.items (lists c.loop-value.tuples.items) _ _ c.loop-value-test.true c.value-item.is
      (some_of_ok _ _ _ c.in_ok-tuple.ensures) (ap lists c.in_ok-push.ensures.items ∙ map-append _ c.loop-value.tuples.items (c.in_ok-tuple.tuple ∷ [])) c.loop-value.invariant.rest;
}

pub returns-in_err-tuple-clause-is : goal.returns-in_err-tuple-clause-is
returns-in_err-tuple-clause-is c =
    let p = err_from_is_err_and c.from_residual.result c.from_residual.ensures.1 in
    rw (p.1, p.2) (λ real. refuses _ _ _ _ (c.in_err-tuple.ensures real)
    (λ none. reads_no_more number_list c.args.list.now c.loop-value.value-index _ (lists c.loop-value.tuples.items) _ c.loop-value-test.true c.value-item.is none c.loop-value.invariant.rest))

pub returns-clause-is : goal.returns-clause-is
returns-clause-is c =
    ap (λ o. ok_or o (WrongKind c.args.spot)) (reads_all number_list c.args.list.now c.loop-value.value-index (lists c.loop-value.tuples.items) _ c.loop-value-test.false c.loop-value.invariant.rest)
