use Rattle.cert_check.proofs.OneText.{not_both}
use Rattle.cert_check.proofs.laws.read_is_not_refused.Goals as goal

pub returns : goal.returns
returns c = not_both
