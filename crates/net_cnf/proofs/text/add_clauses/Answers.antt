use Rattle.std.proofs.lemmas.Grind.{common_steps}
use Rattle.std.proofs.Common.{arith}
use Rattle.net_cnf.proofs.text.add_clauses.Goals as goal

pub returns-in_err-add_all_no_two_values : goal.returns-in_err-add_all_no_two_values
returns-in_err-add_all_no_two_values c = grind (arith, common_steps)

pub returns : goal.returns
returns c = grind (arith, common_steps)
