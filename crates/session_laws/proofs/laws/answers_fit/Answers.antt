use Rattle.session_laws.proofs.Limits.{answers_fit}
use Rattle.session_laws.proofs.laws.answers_fit.Goals as goal

pub returns : goal.returns
returns c = answers_fit
