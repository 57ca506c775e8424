use Rattle.cert_check.proofs.WrittenBack.{written_is_read}
use Rattle.cert_check.proofs.laws.written_is_read.Goals as goal

pub returns : goal.returns
returns c = written_is_read
