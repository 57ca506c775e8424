use Rattle.rel_formula.proofs.Prelude.{◌∙◌, ap, truth_steps}
use Rattle.rel_formula.proofs.Runs.{end_is, ends}
use Rattle.rel_formula.proofs.formula.Formula.truth_at.Goals as goal

pub end_of-requires-clause-ends : goal.end_of-requires-clause-ends
end_of-requires-clause-ends c =
    ends _ _ (end_is c.args.tuple.now c.deref.result.now c.args.self.now (c.deref.ensures.value ∙ c.self.invariant.each ∙ ap truth_steps c.self.view_is))

pub returns : goal.returns
returns c =
    let e = end_is c.args.tuple.now c.deref.result.now c.args.self.now (c.deref.ensures.value ∙ c.self.invariant.each ∙ ap truth_steps c.self.view_is) in
    let r = c.end_of.ensures in
    cc
