use Rattle.session_store.proofs.Openings.{opens_once}
use Rattle.session_store.proofs.laws.no_two_openings.Goals as goal

pub returns : goal.returns
returns c = opens_once c.no_two_readings.ensures
