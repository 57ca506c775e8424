use Rattle.session_laws.proofs.Counted.{answers_are_few}
use Rattle.session_laws.proofs.laws.answers_are_few.Goals as goal

pub returns : goal.returns
returns c = answers_are_few
