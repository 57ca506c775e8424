use Rattle.assign.proofs.CellLemmas.{blank_cells, blank_seen}
use Rattle.assign.proofs.assignment.Partial.blank.Goals as goal

pub invariant_of-result : goal.invariant_of-result
invariant_of-result c = blank_cells c.args.n _ c.empty.ensures c.requires.some c.requires.fits

pub returns : goal.returns
returns c = blank_seen c.args.n _ c.empty.ensures
