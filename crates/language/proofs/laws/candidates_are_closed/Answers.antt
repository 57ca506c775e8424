use Rattle.language.proofs.Meets.{closed_candidates}
use Rattle.language.proofs.laws.candidates_are_closed.Goals as goal

pub returns : goal.returns
returns c = closed_candidates
