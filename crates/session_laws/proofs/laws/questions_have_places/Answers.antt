use Rattle.session_laws.proofs.Places.{questions_have_places}
use Rattle.session_laws.proofs.laws.questions_have_places.Goals as goal

pub returns : goal.returns
returns c = questions_have_places
