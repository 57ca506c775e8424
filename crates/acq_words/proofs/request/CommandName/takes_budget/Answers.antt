use Rattle.acq_words.proofs.Prelude.{rules}
use Rattle.acq_words.proofs.request.CommandName.takes_budget.Goals as goal

pub returns-in-Run : goal.returns-in-Run
returns-in-Run c = search rules
