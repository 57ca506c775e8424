use Rattle.session_store.proofs.EachFile.{opens_always}
use Rattle.session_store.proofs.laws.each_opens_or_is_refused.Goals as goal

pub returns : goal.returns
returns c = opens_always c.each_has_a_reading.ensures
