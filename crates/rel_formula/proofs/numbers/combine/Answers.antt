use Rattle.rel_formula.proofs.Prelude.{rules}
use Rattle.rel_formula.proofs.numbers.combine.Goals as goal

pub returns-in-Sum : goal.returns-in-Sum
returns-in-Sum c = search rules
