use Rattle.rel_formula.proofs.Prelude.{◌*◌}
use Rattle.rel_formula.specs.Places.{AreTruthsTo}
use Rattle.rel_formula.proofs.tables.truths_of.Given as goal

abbrev pub invariant-loop-row : goal.invariant-loop-row
invariant-loop-row l = AreTruthsTo l.f l.fn.arity l.fn.lo l.fn.d (l.row * l.fn.d) l.truths.items
