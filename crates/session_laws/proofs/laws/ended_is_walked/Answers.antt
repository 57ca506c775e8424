use Rattle.session_laws.proofs.Pending.{ended_is_walked}
use Rattle.session_laws.proofs.laws.ended_is_walked.Goals as goal

pub returns : goal.returns
returns c = ended_is_walked
