use Rattle.query_gen.proofs.Prelude.{sym, ◌∙◌, ap, subst, Some, variable_count, IsOrder, search_outcome}
use Rattle.query_gen.proofs.part.outcome_of.Goals as goal

pub search_with-requires-clause-order : goal.search_with-requires-clause-order
search_with-requires-clause-order c =
    subst (IsOrder (variable_count c.args.lang.now)) (sym c.deref.ensures.0) c.order_of.ensures.order

pub returns : goal.returns
returns c =
    c.search_with.ensures
    ∙ ap (λ list. search_outcome c.args.lang.now list (Some c.args.c) c.deref.result.now c.args.budget) c.list.ensures
    ∙ ap (λ order. search_outcome c.args.lang.now c.args.net.now.list (Some c.args.c) order c.args.budget) (c.deref.ensures.0 ∙ c.order_of.ensures.is)
