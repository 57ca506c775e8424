use Rattle.target_oracle.proofs.Draws.{name_more}
use Rattle.target_oracle.proofs.generator.names.Goals as goal

pub loop-v-preserved : goal.loop-v-preserved
loop-v-preserved c = name_more c.loop-v.v c.loop-v.names.items c.push.new.self.items c.in_ok-format.field-0 c.in_ok-push.ensures.items c.in_ok-format.ensures.ok c.loop-v.invariant
