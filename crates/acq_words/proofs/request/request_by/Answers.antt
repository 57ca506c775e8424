use Rattle.acq_words.proofs.Prelude.{rules}
use Rattle.acq_words.proofs.request.request_by.Goals as goal

pub returns-in-Ok-clause-is : goal.returns-in-Ok-clause-is
returns-in-Ok-clause-is c = search rules
