use Rattle.acq_words.proofs.Prelude.{rules}
use Rattle.acq_words.proofs.line.budget_arg.Goals as goal

pub returns-clause-rule : goal.returns-clause-rule
returns-clause-rule c = search rules
