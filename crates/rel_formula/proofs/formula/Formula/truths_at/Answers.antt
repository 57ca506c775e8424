use Rattle.rel_formula.proofs.Prelude.{◌∙◌, ap, truth_steps}
use Rattle.rel_formula.specs.Batch.{numbers_at}
use Rattle.rel_formula.proofs.Runs.{ends_are}
use Rattle.rel_formula.proofs.formula.Formula.truths_at.Goals as goal

pub returns : goal.returns
returns c =
    ends_are c.ends_of.result (λ k. numbers_at k c.args.tuples.now) c.deref.result.now c.args.self.now (c.deref.ensures.value ∙ c.self.invariant.each ∙ ap truth_steps c.self.view_is) c.ends_of.ensures
