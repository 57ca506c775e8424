use Rattle.assign.proofs.Prelude.{ap, sym, subst, ◌∙◌, restrict, Inside}
use Rattle.assign.proofs.CellLemmas.{IsWiped, wiped_first, wiped_cells, wiped_seen, last_of, cells_back}
use Rattle.assign.proofs.assignment.Partial.restrict.Goals as goal

pub loop-v-init : goal.loop-v-init
loop-v-init c =
    subst (λ (a : Inside). IsWiped a c.common-kept.result c.minus-gone.result c.self.inside.values)
    (sym (cells_back c.self.inside c.args.self.now c.self.invariant c.self.view_is))
    (wiped_first c.self.inside c.args.w c.common-kept.result c.minus-gone.result c.self.invariant c.common-kept.ensures c.minus-gone.ensures)

pub invariant_of-result : goal.invariant_of-result
invariant_of-result c =
    wiped_cells c.self.inside c.args.w c.common-kept.result c.loop-v.values c.self.invariant c.common-kept.ensures
    (last_of c.self.inside c.args.self.now c.common-kept.result c.loop-v.gone c.loop-v.values c.self.invariant c.self.view_is (sym c.pop_first.ensures.first ∙ c.in_default.is) c.loop-v.invariant)

pub returns : goal.returns
returns c =
    wiped_seen c.self.inside c.args.w c.common-kept.result c.loop-v.values c.self.invariant c.common-kept.ensures
    (last_of c.self.inside c.args.self.now c.common-kept.result c.loop-v.gone c.loop-v.values c.self.invariant c.self.view_is (sym c.pop_first.ensures.first ∙ c.in_default.is) c.loop-v.invariant)
    ∙ ap (λ e. restrict e c.args.w) c.self.view_is
