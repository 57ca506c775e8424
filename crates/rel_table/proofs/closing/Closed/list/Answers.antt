use Rattle.rel_table.proofs.Prelude.{arith, common_steps}
use Rattle.rel_table.proofs.closing.Closed.list.Goals as goal

pub returns : goal.returns
returns c = grind (arith, common_steps)
