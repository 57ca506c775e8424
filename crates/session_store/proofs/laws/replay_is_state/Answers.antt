use Rattle.session_store.proofs.Fronts.{replay_is_state}
use Rattle.session_store.proofs.laws.replay_is_state.Goals as goal

pub returns : goal.returns
returns c = replay_is_state
