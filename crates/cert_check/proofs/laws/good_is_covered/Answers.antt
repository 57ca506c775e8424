use Rattle.cert_check.proofs.Goodness.{good_is_covered}
use Rattle.cert_check.proofs.laws.good_is_covered.Goals as goal

pub returns : goal.returns
returns c = good_is_covered
