use Rattle.net_cnf.proofs.Encoding.{encode}
use Rattle.net_cnf.proofs.laws.clauses_encode.Goals as goal

pub returns : goal.returns
returns c = encode
