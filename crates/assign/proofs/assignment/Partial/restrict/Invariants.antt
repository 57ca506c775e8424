use Rattle.assign.proofs.Prelude.{length, cells_of}
use Rattle.assign.proofs.CellLemmas.{IsWiped}
use Rattle.assign.proofs.assignment.Partial.restrict.Given as goal

abbrev pub invariant-loop-v : goal.invariant-loop-v
invariant-loop-v l = IsWiped (cells_of l.self) l.kept l.gone l.values

abbrev pub decreases-loop-v : goal.decreases-loop-v
decreases-loop-v l = length l.gone
