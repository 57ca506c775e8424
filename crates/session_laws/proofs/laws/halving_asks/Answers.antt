use Rattle.session_laws.proofs.States.{halving_asks}
use Rattle.session_laws.proofs.laws.halving_asks.Goals as goal

pub returns : goal.returns
returns c = halving_asks
