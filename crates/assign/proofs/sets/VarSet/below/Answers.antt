use Rattle.assign.proofs.Prelude.{◌∙◌, ap}
use Rattle.assign.proofs.Fronts.{below, members_of-below}
use Rattle.assign.proofs.sets.VarSet.below.Goals as goal

pub returns : goal.returns
returns c =
    members_of-below c.self.inside.mask c.result.inside.mask c.args.place c.requires (c.result.view_is ∙ c.all.ensures)
    ∙ ap (below c.args.place) c.self.view_is
