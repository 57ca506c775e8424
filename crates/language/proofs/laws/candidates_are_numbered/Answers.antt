use Rattle.language.proofs.Counting.{numbered}
use Rattle.language.proofs.laws.candidates_are_numbered.Goals as goal

pub returns : goal.returns
returns c = numbered
