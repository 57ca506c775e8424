use Rattle.net_reduce.proofs.Sifting.{reduced_is_target}
use Rattle.net_reduce.proofs.laws.reduced_is_target.Goals as goal

pub returns : goal.returns
returns c = reduced_is_target
