use Rattle.cert_check.proofs.MadeBack.{made_is_confirmed}
use Rattle.cert_check.proofs.laws.made_is_confirmed.Goals as goal

pub returns : goal.returns
returns c = made_is_confirmed
