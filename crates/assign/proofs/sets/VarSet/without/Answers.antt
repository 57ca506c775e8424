use Rattle.assign.proofs.Prelude.{◌∙◌, ap, bit_and, bit_not, w128, one_shl, pow_below, without, members_of}
use Rattle.assign.proofs.Masks.{members_of-without}
use Rattle.assign.proofs.sets.VarSet.without.Goals as goal

pub returns : goal.returns
returns c =
    ap (λ x. members_of (bit_and c.self.inside.mask (bit_not w128 x))) (one_shl c.args.v 128 c.requires)
    ∙ members_of-without c.self.inside.mask c.args.v c.requires (pow_below c.args.v 128 c.requires) ∙ ap (λ xs. without xs c.args.v) c.self.view_is
