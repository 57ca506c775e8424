use Rattle.propagators.proofs.Pruned.{largest_again}
use Rattle.propagators.proofs.laws.largest_again.Goals as goal

pub returns : goal.returns
returns c = largest_again
