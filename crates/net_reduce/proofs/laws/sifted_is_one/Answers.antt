use Rattle.net_reduce.proofs.Sifting.{one_is_sifted}
use Rattle.net_reduce.proofs.laws.sifted_is_one.Goals as goal

pub returns : goal.returns
returns c = one_is_sifted
