use Rattle.cert_check.proofs.Goodness.{good_is_converged}
use Rattle.cert_check.proofs.laws.good_is_converged.Goals as goal

pub returns : goal.returns
returns c = good_is_converged
