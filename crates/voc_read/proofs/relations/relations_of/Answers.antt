use Rattle.voc_read.proofs.Prelude.{◌≤◌, arith, length-append, sym, subst, All-push, err_from_is_err_and, view, items_view, Value, RelPart, IsOver, IsNamed, widest, items_widest}
use Rattle.voc_read.proofs.Widths.{widest-get_or}
use Rattle.voc_read.proofs.RelationSteps.{reads_one_more, reads_no_more, reads_all}
use Rattle.voc_read.proofs.relations.relations_of.Goals as goal

pub relation_of-requires : goal.relation_of-requires
relation_of-requires c =
    let P : Value → Type 0 = λ value. widest (view value) ≤ items_widest (items_view c.args.list.now) in
    let within = subst P (sym c.index-list-i.is) (widest-get_or c.args.list.now c.loop-i.i c.index-list-i.result c.loop-i-test.true) in
    omega (arith, within, c.requires.parts)

pub loop-i-preserved : goal.loop-i-preserved
loop-i-preserved c = rw c.in_ok-push.ensures.items record {
  each = omega (arith, c.loop-i.invariant.each, length-append {A = RelPart});
  kinds = All-push (IsOver c.args.domain.value_count) _ _ c.loop-i.invariant.kinds c.in_ok-relation.ensures.kind;
  named = All-push IsNamed _ _ c.loop-i.invariant.named c.in_ok-relation.ensures.named;
  rest = reads_one_more _ _ _ _ _ _ _ _ c.loop-i-test.true c.index-list-i.is c.in_ok-relation.ensures.is c.loop-i.invariant.rest;
}

pub returns-in_err-relation-clause-is : goal.returns-in_err-relation-clause-is
returns-in_err-relation-clause-is c =
    let p = err_from_is_err_and c.from_residual.result c.from_residual.ensures.1 in
    rw (p.1, p.2) (λ real. reads_no_more _ _ _ _ _ _ _ _ c.loop-i-test.true c.index-list-i.is (c.in_err-relation.ensures.is real) c.loop-i.invariant.rest)

pub returns-clause-is : goal.returns-clause-is
returns-clause-is c = reads_all _ _ _ _ _ _ c.loop-i-test.false c.loop-i.invariant.rest
