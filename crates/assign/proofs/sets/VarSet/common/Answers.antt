use Rattle.assign.proofs.Prelude.{◌∙◌, common}
use Rattle.assign.proofs.Masks.{members_of-and}
use Rattle.assign.proofs.sets.VarSet.common.Goals as goal

pub returns : goal.returns
returns c = members_of-and c.self.inside.mask c.other.inside.mask ∙ (λ i. common (c.self.view_is i) (c.other.view_is i))
