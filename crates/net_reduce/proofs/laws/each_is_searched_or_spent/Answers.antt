use Rattle.net_reduce.proofs.EachNetwork.{each_network}
use Rattle.net_reduce.proofs.laws.each_is_searched_or_spent.Goals as goal

pub returns : goal.returns
returns c = each_network
