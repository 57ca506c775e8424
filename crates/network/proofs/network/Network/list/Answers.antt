use Rattle.network.proofs.Prelude.{rules}
use Rattle.network.proofs.network.Network.list.Goals as goal

pub returns : goal.returns
returns c = search rules
