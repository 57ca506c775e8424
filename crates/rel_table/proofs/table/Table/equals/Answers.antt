use Rattle.rel_table.proofs.Prelude.{sym, ◌∙◌, ap, TruthTable}
use Rattle.rel_table.proofs.Same.{same_table_value}
use Rattle.rel_table.proofs.table.Table.equals.Goals as goal

pub returns : goal.returns
returns c = (
  λ h. sym c.self.view_is ∙ same_table_value _ _ c.if-self-o.false c.if-self-o-2.false (c.equals.ensures.0 h) ∙ c.o.view_is,
  λ e. c.equals.ensures.1 (ap (λ (r : TruthTable). r.truth) (c.self.view_is ∙ e ∙ sym c.o.view_is)),
)
