use Rattle.session_laws.proofs.Folds.{one_answer_more}
use Rattle.session_laws.proofs.laws.one_answer_more.Goals as goal

pub returns : goal.returns
returns c = one_answer_more
