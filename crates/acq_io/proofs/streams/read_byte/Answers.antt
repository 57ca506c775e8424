use Rattle.acq_io.proofs.Prelude.{rules}
use Rattle.acq_io.proofs.streams.read_byte.Goals as goal

pub returns-else-count-eq0-clause-bytes : goal.returns-else-count-eq0-clause-bytes
returns-else-count-eq0-clause-bytes c = search rules
