use Rattle.propagators.proofs.Living.{largest_tells}
use Rattle.propagators.proofs.laws.largest_tells.Goals as goal

pub returns : goal.returns
returns c = largest_tells
