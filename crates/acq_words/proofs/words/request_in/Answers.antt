use Rattle.acq_words.proofs.Prelude.{rules}
use Rattle.acq_words.proofs.words.request_in.Goals as goal

pub returns-clause-is : goal.returns-clause-is
returns-clause-is c = search rules
