use Rattle.session_laws.proofs.Counted.{learned_are_few}
use Rattle.session_laws.proofs.laws.learned_are_few.Goals as goal

pub returns : goal.returns
returns c = learned_are_few
