use Rattle.cert_check.proofs.Made.{made_is_good}
use Rattle.cert_check.proofs.laws.made_is_good.Goals as goal

pub returns : goal.returns
returns c = made_is_good
