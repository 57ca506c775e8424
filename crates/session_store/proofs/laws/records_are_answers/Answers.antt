use Rattle.session_store.proofs.Recording.{records_are_answers}
use Rattle.session_store.proofs.laws.records_are_answers.Goals as goal

pub returns : goal.returns
returns c = records_are_answers
