use Rattle.session_laws.proofs.Steps.{settle_steps}
use Rattle.session_laws.proofs.laws.settle_steps.Goals as goal

pub returns : goal.returns
returns c = settle_steps
