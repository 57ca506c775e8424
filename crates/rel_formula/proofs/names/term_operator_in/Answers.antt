use Rattle.rel_formula.proofs.Prelude.{sym, ◌∙◌, ap, items_view, then_on, as_term_operator, operand_count}
use Rattle.rel_formula.proofs.Operands.{operand_count-items_view}
use Rattle.rel_formula.proofs.names.term_operator_in.Goals as goal

pub returns : goal.returns
returns c =
    c.as_term_operator.ensures
    ∙ ap (λ n. as_term_operator c.args.node n c.in_ok-operator.operator) (sym (operand_count-items_view c.args.items.now))
    ∙ ap (λ r. then_on r (as_term_operator c.args.node (operand_count (items_view c.args.items.now)))) (sym c.in_ok-operator.was ∙ c.operator_in.ensures)
