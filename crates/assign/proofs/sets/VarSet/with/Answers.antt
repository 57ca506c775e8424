use Rattle.assign.proofs.Prelude.{◌∙◌, ◌*◌, ◌%◌, ◌^◌, ◌<◌, ap, subst, sym, ℕ, bit_or, or_lt, one_shl, pow_below, with_member, members_of}
use Rattle.assign.proofs.Masks.{members_of-with}
use Rattle.assign.proofs.sets.VarSet.with.Goals as goal

pub invariant_of-result : goal.invariant_of-result
invariant_of-result c =
    or_lt 128 c.self.inside.mask (1 * 2 ^ c.args.v % 2 ^ 128) c.self.invariant (subst (λ (x : ℕ). x < 2 ^ 128) (sym (one_shl c.args.v 128 c.requires)) (pow_below c.args.v 128 c.requires))

pub returns : goal.returns
returns c =
    ap (λ x. members_of (bit_or c.self.inside.mask x)) (one_shl c.args.v 128 c.requires)
    ∙ members_of-with c.self.inside.mask c.args.v ∙ ap (λ xs. with_member xs c.args.v) c.self.view_is
