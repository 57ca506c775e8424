use Rattle.assign.proofs.Prelude.{◌∙◌, is_within}
use Rattle.assign.proofs.Masks.{within_is}
use Rattle.assign.proofs.sets.VarSet.within.Goals as goal

pub returns : goal.returns
returns c = within_is c.self.inside.mask c.other.inside.mask c.self.invariant c.other.invariant ∙ (λ i. is_within (c.self.view_is i) (c.other.view_is i))
