use Rattle.cert_check.proofs.OneText.{one_certificate}
use Rattle.cert_check.proofs.laws.no_two_certificates.Goals as goal

pub returns : goal.returns
returns c = one_certificate
