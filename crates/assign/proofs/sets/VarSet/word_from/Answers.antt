use Rattle.assign.proofs.Prelude.{◌∙◌, ◌+◌, ◌/◌, ◌^◌, ap, bit_and, has, is_one}
use Rattle.assign.proofs.Masks.{ones_from}
use Rattle.assign.proofs.sets.VarSet.word_from.Goals as goal

pub returns : goal.returns
returns c = λ j low.
    ap (λ m. is_one (bit_and (c.self.inside.mask / 2 ^ c.args.v) m) j) c.from.ensures
    ∙ ones_from c.self.inside.mask c.args.v j c.self.invariant low ∙ ap (λ xs. has xs (c.args.v + j)) c.self.view_is
