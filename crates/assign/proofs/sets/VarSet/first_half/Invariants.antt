use Rattle.assign.proofs.Prelude.{◌-◌}
use Rattle.assign.proofs.Fronts.{IsBetween}
use Rattle.assign.proofs.sets.VarSet.first_half.Given as goal

abbrev pub invariant-loop-low : goal.invariant-loop-low
invariant-loop-low l = IsBetween l.fn.self l.half l.low l.high

abbrev pub decreases-loop-low : goal.decreases-loop-low
decreases-loop-low l = l.high - l.low
