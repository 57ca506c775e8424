use Rattle.assign.proofs.Prelude.{◌∙◌, minus}
use Rattle.assign.proofs.Masks.{members_of-and_not}
use Rattle.assign.proofs.sets.VarSet.minus.Goals as goal

pub returns : goal.returns
returns c = members_of-and_not c.self.inside.mask c.other.inside.mask c.other.invariant ∙ (λ i. minus (c.self.view_is i) (c.other.view_is i))
