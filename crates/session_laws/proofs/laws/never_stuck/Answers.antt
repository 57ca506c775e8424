use Rattle.session_laws.proofs.Places.{never_stuck}
use Rattle.session_laws.proofs.laws.never_stuck.Goals as goal

pub returns : goal.returns
returns c = never_stuck
