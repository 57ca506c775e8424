use Rattle.assign.proofs.Prelude.{sym, ◌∙◌, ap, length, length-seen}
use Rattle.assign.proofs.assignment.Partial.len.Goals as goal

pub returns-clause-len : goal.returns-clause-len
returns-clause-len c = sym (length-seen c.self.inside) ∙ ap length c.self.view_is
