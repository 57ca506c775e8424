use Rattle.rel_formula.proofs.Prelude.{◌+◌, ◌-◌, ◌*◌, ◌≤◌}
use Rattle.rel_formula.specs.Places.{AreTruthsTo}
use Rattle.rel_formula.proofs.tables.add_row.Given as goal

abbrev pub invariant-loop-first : goal.invariant-loop-first
invariant-loop-first l = record {
  within : l.first ≤ l.fn.d;
  so_far : AreTruthsTo l.f l.fn.arity l.fn.lo l.fn.d (l.fn.row * l.fn.d + l.first) l.truths.items;
}

abbrev pub decreases-loop-first : goal.decreases-loop-first
decreases-loop-first l = l.fn.d - l.first
