use Rattle.assign.proofs.Prelude.{ap, sym, ◌∙◌, is_some, list_all, is_within}
use Rattle.assign.proofs.CellLemmas.{complete_from}
use Rattle.assign.proofs.assignment.Partial.is_complete.Goals as goal

pub returns : goal.returns
returns c =
    c.within.ensures ∙ ap (λ all. is_within all c.self.inside.valued) c.all.ensures
    ∙ sym (complete_from c.self.inside 0 c.self.inside.n) ∙ ap (list_all is_some) c.self.view_is
