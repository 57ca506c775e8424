use Rattle.net_reduce.proofs.Sifting.{sifted_is_reduction}
use Rattle.net_reduce.proofs.laws.sifted_is_reduction.Goals as goal

pub returns : goal.returns
returns c = sifted_is_reduction
