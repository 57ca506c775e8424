use Rattle.session_laws.proofs.Counted.{answers_are_at_most}
use Rattle.session_laws.proofs.laws.answers_are_at_most.Goals as goal

pub returns : goal.returns
returns c = answers_are_at_most
