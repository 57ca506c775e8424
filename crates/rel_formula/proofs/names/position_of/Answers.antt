use Rattle.rel_formula.proofs.Prelude.{rules}
use Rattle.rel_formula.proofs.names.position_of.Goals as goal

pub returns-in-Some : goal.returns-in-Some
returns-in-Some c = search rules
