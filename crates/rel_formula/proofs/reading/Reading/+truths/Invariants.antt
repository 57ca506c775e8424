use Rattle.rel_formula.proofs.Prelude.{◌+◌, ◌-◌, ◌*◌, drop}
use Rattle.rel_formula.proofs.InTurn.{SoFar}
use Rattle.rel_formula.proofs.Ways.{truth_way}
use Rattle.rel_formula.proofs.reading.Reading.+truths.Given as goal

-- each reading of an operand is one deeper, and none is deeper than 33
abbrev pub decreases-truth : goal.decreases-truth
decreases-truth l = 3 * (40 - l.depth) + 2

abbrev pub decreases-truth_call : goal.decreases-truth_call
decreases-truth_call l = 3 * (40 - l.depth) + 1

abbrev pub decreases-read_negation : goal.decreases-read_negation
decreases-read_negation l = 3 * (40 - l.depth) + 3

abbrev pub decreases-read_connective : goal.decreases-read_connective
decreases-read_connective l = 3 * (40 - l.depth) + 3

abbrev pub invariant-read_connective-loop-operand : goal.invariant-read_connective-loop-operand
invariant-read_connective-loop-operand l = SoFar (truth_way l.operator l.arity l.depth) l.operands (drop l.operand-index l.operand-items) l.fn.self l.self
