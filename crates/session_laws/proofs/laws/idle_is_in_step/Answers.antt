use Rattle.session_laws.proofs.States.{idle_is_in_step}
use Rattle.session_laws.proofs.laws.idle_is_in_step.Goals as goal

pub returns : goal.returns
returns c = idle_is_in_step
