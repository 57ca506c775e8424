use Rattle.assign.proofs.Prelude.{◌∙◌, ◌<◌, ap, sym, arith, w128, bit_at-trailing_zeros, least_of, members_of}
use Rattle.assign.proofs.Masks.{members_of-zero, least_of-members_of}
use Rattle.assign.proofs.sets.VarSet.least.Goals as goal

pub returns-then-self-eq0 : goal.returns-then-self-eq0
returns-then-self-eq0 c = record { least = sym (ap (λ m. least_of (members_of m)) c.if-self-eq0.true ∙ ap least_of members_of-zero) ∙ ap least_of c.self.view_is; within = tt }

pub returns-else-self-eq0 : goal.returns-else-self-eq0
returns-else-self-eq0 c =
    let positive : 0 < c.self.inside.mask = omega arith in
    let low = bit_at-trailing_zeros w128 c.self.inside.mask positive c.self.invariant in
    record { least = sym (least_of-members_of c.self.inside.mask _ low.0 low.1 low.2) ∙ ap least_of c.self.view_is; within = low.0 }
