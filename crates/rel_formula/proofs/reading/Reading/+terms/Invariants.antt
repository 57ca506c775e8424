use Rattle.rel_formula.proofs.Prelude.{◌+◌, ◌-◌, ◌*◌, drop}
use Rattle.rel_formula.proofs.InTurn.{SoFar}
use Rattle.rel_formula.proofs.Ways.{term_way}
use Rattle.rel_formula.proofs.reading.Reading.+terms.Given as goal

-- each reading of an operand is one deeper, and none is deeper than 33
abbrev pub decreases-term : goal.decreases-term
decreases-term l = 3 * (40 - l.depth) + 2

abbrev pub decreases-term_call : goal.decreases-term_call
decreases-term_call l = 3 * (40 - l.depth) + 1

abbrev pub decreases-absolute : goal.decreases-absolute
decreases-absolute l = 3 * (40 - l.depth) + 3

abbrev pub decreases-read_arithmetic : goal.decreases-read_arithmetic
decreases-read_arithmetic l = 3 * (40 - l.depth) + 3

abbrev pub invariant-read_arithmetic-loop-operand : goal.invariant-read_arithmetic-loop-operand
invariant-read_arithmetic-loop-operand l = SoFar (term_way l.operator l.arity l.depth) l.operands (drop l.operand-index l.operand-items) l.fn.self l.self
