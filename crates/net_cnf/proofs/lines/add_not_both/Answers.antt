use Rattle.std.proofs.lemmas.Grind.{common_steps}
use Rattle.std.proofs.Common.{arith}
use Rattle.net_cnf.proofs.lines.add_not_both.Goals as goal

pub returns-in_err-add_literal-2 : goal.returns-in_err-add_literal-2
returns-in_err-add_literal-2 c = grind (arith, common_steps)

pub returns : goal.returns
returns c = grind (arith, common_steps)
