use Rattle.network.proofs.Telling.{text_tells_network}
use Rattle.network.proofs.laws.text_tells_network.Goals as goal

pub returns : goal.returns
returns c = text_tells_network
