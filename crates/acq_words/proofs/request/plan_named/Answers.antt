use Rattle.acq_words.proofs.Prelude.{rules}
use Rattle.acq_words.proofs.request.plan_named.Goals as goal

pub returns-in-multi : goal.returns-in-multi
returns-in-multi c = search rules
