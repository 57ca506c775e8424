use Rattle.session_core.proofs.NoNew.{settled}
use Rattle.session_core.proofs.Reached.{walk_left}
use Rattle.session_core.proofs.Turning.{same_some}
use Rattle.session_core.proofs.session.Asking.answer_to.Goals as goal

pub returns-clause-settled : goal.returns-clause-settled
returns-clause-settled c t stands = settled c.heard.result t c.heard.ensures.none_new stands

pub returns-clause-walked : goal.returns-clause-walked
returns-clause-walked c = λ t e stands multi ended. walk_left c.heard.result t e c.heard.ensures.lawful stands multi ended

pub heard-requires-clause-asked : goal.heard-requires-clause-asked
heard-requires-clause-asked c = same_some _ _ c.requires.asked
