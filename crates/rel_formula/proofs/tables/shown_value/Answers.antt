use Rattle.rel_formula.proofs.Prelude.{rules}
use Rattle.rel_formula.proofs.tables.shown_value.Goals as goal

pub returns : goal.returns
returns c = search rules
