use Rattle.propagators.proofs.Pruned.{largest_is_one}
use Rattle.propagators.proofs.laws.largest_is_one.Goals as goal

pub returns : goal.returns
returns c = largest_is_one
