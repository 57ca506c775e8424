use Rattle.voc_read.proofs.Prelude.{rules}
use Rattle.voc_read.proofs.domain.Domain.has.Goals as goal

pub returns-then-self-value : goal.returns-then-self-value
returns-then-self-value c = search rules
