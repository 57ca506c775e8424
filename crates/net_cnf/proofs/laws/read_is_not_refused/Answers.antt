use Rattle.net_cnf.proofs.Modelled.{read_is_not_refused}
use Rattle.net_cnf.proofs.laws.read_is_not_refused.Goals as goal

pub returns : goal.returns
returns c = read_is_not_refused
