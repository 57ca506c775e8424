use Rattle.propagators.proofs.Prelude.{◌∙◌, ◌<◌, ◌^◌, ap, take, not, list_all, All-take, Family, is_not_empty}
use Rattle.propagators.proofs.Ones.{some_zero}
use Rattle.propagators.proofs.domains.Domains.has_empty.Goals as goal

pub returns : goal.returns
returns c =
    c.some_is_zero.ensures ∙ some_zero (take c.self.inside.size c.self.inside.sets) (All-take (λ m. m < 2 ^ 64) c.self.inside.size c.self.inside.sets c.self.invariant.small)
    ∙ ap (λ (f : Family). not (list_all is_not_empty f)) c.self.view_is
