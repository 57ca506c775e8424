use Rattle.assign.proofs.Prelude.{◌∙◌, nat_eq, pointwise}
use Rattle.assign.proofs.Masks.{same_mask_is}
use Rattle.assign.proofs.sets.VarSetPartialEq.eq.Goals as goal

pub returns : goal.returns
returns c =
    same_mask_is c.self.inside.mask c.other.inside.mask c.self.invariant c.other.invariant
    ∙ (λ i. pointwise nat_eq (c.self.view_is i) (c.other.view_is i))
