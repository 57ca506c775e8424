use Rattle.session_laws.proofs.Askable.{questions_have_values}
use Rattle.session_laws.proofs.laws.questions_have_values.Goals as goal

pub returns : goal.returns
returns c = questions_have_values
