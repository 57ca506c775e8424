use Rattle.network.proofs.Prelude.{arith}
use Rattle.std.proofs.lemmas.Grind.{common_steps}
use Rattle.network.proofs.text.add_line.Goals as goal

pub returns : goal.returns
returns c = grind (arith, common_steps)
