use Rattle.assign.proofs.Prelude.{◌∙◌, ap, widened}
use Rattle.assign.proofs.CellLemmas.{wide_cells, wide_seen}
use Rattle.assign.proofs.assignment.Partial.widened.Goals as goal

pub invariant_of-result : goal.invariant_of-result
invariant_of-result c = wide_cells c.self.inside c.self.invariant

pub returns : goal.returns
returns c = wide_seen c.self.inside c.self.invariant ∙ ap widened c.self.view_is
