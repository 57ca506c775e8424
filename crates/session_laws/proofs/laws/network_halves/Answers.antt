use Rattle.session_laws.proofs.NetworkHalves.{network_halves}
use Rattle.session_laws.proofs.laws.network_halves.Goals as goal

pub returns : goal.returns
returns c = network_halves
