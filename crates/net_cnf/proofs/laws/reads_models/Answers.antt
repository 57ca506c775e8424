use Rattle.net_cnf.proofs.Modelled.{reads_models}
use Rattle.net_cnf.proofs.laws.reads_models.Goals as goal

pub returns : goal.returns
returns c = reads_models
