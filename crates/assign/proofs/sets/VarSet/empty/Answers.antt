use Rattle.assign.proofs.Masks.{members_of-zero}
use Rattle.assign.proofs.sets.VarSet.empty.Goals as goal

pub returns : goal.returns
returns c = members_of-zero
