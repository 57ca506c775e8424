use Rattle.session_core.proofs.Prelude.{rules}
use Rattle.session_core.proofs.answering.strike.Goals as goal

pub returns-in-None-clause-kept : goal.returns-in-None-clause-kept
returns-in-None-clause-kept c = search rules
