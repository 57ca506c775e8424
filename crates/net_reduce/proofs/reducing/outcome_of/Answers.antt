use Rattle.net_reduce.proofs.Prelude.{sym, ◌∙◌, ap, subst, Some, variable_count, IsOrder, search_outcome}
use Rattle.net_reduce.proofs.reducing.outcome_of.Goals as goal

pub search-requires-clause-order : goal.search-requires-clause-order
search-requires-clause-order c =
    subst (IsOrder (variable_count c.args.lang.now)) (sym c.deref.ensures.0) c.order_of.ensures.order

pub returns-clause-is : goal.returns-clause-is
returns-clause-is c =
    c.search.ensures
    ∙ ap (λ order. search_outcome c.args.lang.now c.args.others.now (Some c.args.c) order c.args.budget) (c.deref.ensures.0 ∙ c.order_of.ensures.is)
