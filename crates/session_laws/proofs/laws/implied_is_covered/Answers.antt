use Rattle.session_laws.proofs.States.{implied_is_covered}
use Rattle.session_laws.proofs.laws.implied_is_covered.Goals as goal

pub returns : goal.returns
returns c = implied_is_covered
