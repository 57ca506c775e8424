use Rattle.session_store.proofs.Fronts.{fronts_have_places}
use Rattle.session_store.proofs.laws.fronts_have_places.Goals as goal

pub returns : goal.returns
returns c = fronts_have_places
