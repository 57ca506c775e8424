use Rattle.session_laws.proofs.Growing.{network_grows}
use Rattle.session_laws.proofs.laws.network_grows.Goals as goal

pub returns : goal.returns
returns c = network_grows
