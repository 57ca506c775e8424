use Rattle.cert_check.proofs.Refuted.{refuted_is_implied}
use Rattle.cert_check.proofs.laws.refuted_is_implied.Goals as goal

pub returns : goal.returns
returns c = refuted_is_implied
