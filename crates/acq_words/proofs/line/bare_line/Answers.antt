use Rattle.acq_words.proofs.Prelude.{rules}
use Rattle.acq_words.proofs.line.bare_line.Goals as goal

pub returns : goal.returns
returns c = search rules
