use Rattle.rel_formula.proofs.Prelude.{[], reverse, ap, ◌∙◌, fitting}
use Rattle.rel_formula.proofs.Rows.{of_done, shows, shown_of-row}
use Rattle.rel_formula.proofs.batch.show.Goals as goal

pub returns-in-Some : goal.returns-in-Some
returns-in-Some c =
    let found = c.in-Some.ensures.lookup.3 in
    of_done c.put.result
    (λ put truths. shows c.args.at c.args.tuples.now (reverse c.args.numbers.now.items) _ truths c.copy_each.result put
    (λ k h. ap fitting (shown_of-row c.args.tuples.now c.args.at k c.in-Some.xs.now found.0 (found.1 [])) ∙ c.copy_each.ensures k h))
    c.put.ensures
