use Rattle.assign.proofs.Prelude.{sym, ◌∙◌, ap, ◌==◌, shr_and_one, has, has-members_of}
use Rattle.assign.proofs.sets.VarSet.has.Goals as goal

pub returns : goal.returns
returns c =
    ap (λ x. x == 1) (shr_and_one c.self.inside.mask c.args.v)
    ∙ sym (has-members_of c.self.inside.mask c.args.v c.requires)
    ∙ ap (λ xs. has xs c.args.v) c.self.view_is
