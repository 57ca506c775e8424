use Rattle.session_laws.proofs.States.{over_means_none}
use Rattle.session_laws.proofs.laws.over_means_none.Goals as goal

pub returns : goal.returns
returns c = over_means_none
