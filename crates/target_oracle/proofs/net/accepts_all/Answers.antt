use Rattle.std.proofs.lemmas.Grind.{common_steps}
use Rattle.std.proofs.Common.{arith}
use Rattle.target_oracle.proofs.net.accepts_all.Goals as goal

pub loop-c-preserved : goal.loop-c-preserved
loop-c-preserved c = grind (arith, common_steps)

pub returns-then-candidate_violated : goal.returns-then-candidate_violated
returns-then-candidate_violated c = grind (arith, common_steps)

pub returns : goal.returns
returns c = grind (arith, common_steps)
