use Rattle.session_store.proofs.Fronts.{stray_is_first}
use Rattle.session_store.proofs.laws.stray_is_first.Goals as goal

pub returns : goal.returns
returns c = stray_is_first
