use Rattle.session_laws.proofs.Steps.{kept_steps}
use Rattle.session_laws.proofs.laws.kept_steps.Goals as goal

pub returns : goal.returns
returns c = kept_steps
