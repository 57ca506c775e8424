use Rattle.propagators.proofs.Pruned.{largest_is}
use Rattle.propagators.proofs.laws.largest_is.Goals as goal

pub returns : goal.returns
returns c = largest_is
