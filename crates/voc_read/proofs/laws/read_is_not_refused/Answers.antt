use Rattle.voc_read.proofs.Refused.{not_refused}
use Rattle.voc_read.proofs.laws.read_is_not_refused.Goals as goal

pub returns : goal.returns
returns c = not_refused
