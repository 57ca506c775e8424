use Rattle.cert_check.proofs.OneText.{one_fault}
use Rattle.cert_check.proofs.laws.no_two_faults.Goals as goal

pub returns : goal.returns
returns c = one_fault
