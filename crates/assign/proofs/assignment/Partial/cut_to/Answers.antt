use Rattle.assign.proofs.Prelude.{ap, sym, ◌∙◌, arith, length, common, length-seen}
use Rattle.assign.proofs.CellLemmas.{cut_cells, cut_seen}
use Rattle.assign.proofs.assignment.Partial.cut_to.Goals as goal

pub all-requires : goal.all-requires
all-requires c =
    let most = c.self.invariant.fits in
    let fits = c.requires.within in
    omega (arith, ap length (sym c.self.view_is), length-seen c.self.inside)

pub invariant_of-result : goal.invariant_of-result
invariant_of-result c =
    cut_cells c.self.inside c.result.inside c.args.self.now c.common-first.result c.args.n c.result.invariant (c.result.view_is ∙ c.restrict.ensures) (c.common-first.ensures ∙ ap (common c.self.inside.valued) c.all.ensures) c.requires.some c.requires.within

pub returns : goal.returns
returns c =
    cut_seen c.self.inside c.result.inside c.args.self.now c.common-first.result c.args.n c.self.invariant c.self.view_is c.result.invariant (c.result.view_is ∙ c.restrict.ensures) (c.common-first.ensures ∙ ap (common c.self.inside.valued) c.all.ensures) c.requires.within
