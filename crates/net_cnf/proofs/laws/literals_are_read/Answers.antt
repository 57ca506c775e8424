use Rattle.net_cnf.proofs.Literals.{literals_are_read}
use Rattle.net_cnf.proofs.laws.literals_are_read.Goals as goal

pub returns : goal.returns
returns c = literals_are_read
