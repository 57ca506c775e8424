use Rattle.assign.proofs.Prelude.{sym, ◌∙◌, ap, variables_of, variables_of-seen}
use Rattle.assign.proofs.assignment.Partial.vars.Goals as goal

pub returns : goal.returns
returns c = sym (variables_of-seen c.self.inside c.self.invariant) ∙ ap variables_of c.self.view_is
