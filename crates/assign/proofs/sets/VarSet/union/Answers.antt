use Rattle.assign.proofs.Prelude.{◌∙◌, or_lt, union, members_of-or}
use Rattle.assign.proofs.sets.VarSet.union.Goals as goal

pub invariant_of-result : goal.invariant_of-result
invariant_of-result c = or_lt 128 c.self.inside.mask c.other.inside.mask c.self.invariant c.other.invariant

pub returns : goal.returns
returns c = members_of-or c.self.inside.mask c.other.inside.mask ∙ (λ i. union (c.self.view_is i) (c.other.view_is i))
