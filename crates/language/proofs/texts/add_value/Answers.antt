use Rattle.language.proofs.Prelude.{arith}
use Rattle.std.proofs.lemmas.Grind.{common_steps}
use Rattle.language.proofs.texts.add_value.Goals as goal

pub returns : goal.returns
returns c = grind (arith, common_steps)
