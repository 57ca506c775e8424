use Rattle.std.proofs.lemmas.Grind.{common_steps}
use Rattle.std.proofs.Common.{arith}
use Rattle.rel_formula.proofs.machine.Stacks.end_of.Goals as goal

pub returns-then-not-take : goal.returns-then-not-take
returns-then-not-take c = grind (arith, common_steps)
