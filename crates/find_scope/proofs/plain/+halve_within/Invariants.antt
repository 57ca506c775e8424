use Rattle.find_scope.proofs.Prelude.{length}
use Rattle.find_scope.proofs.plain.+halve_within.Given as goal

abbrev pub decreases-halve_within : goal.decreases-halve_within
decreases-halve_within l = length l.set
