use Rattle.rel_formula.proofs.Prelude.{◌≡◌, ◌+◌, ◌-◌, ◌*◌, length, take, tuple_at, shown_tuple}
use Rattle.rel_formula.specs.Places.{AreTruthsTo}
use Rattle.rel_formula.proofs.tables.add_rest.Given as goal

abbrev pub invariant-loop-x : goal.invariant-loop-x
invariant-loop-x l = record {
  len : length l.shown ≡ 4;
  values : take (l.fn.arity - 1) l.shown ≡ shown_tuple l.fn.lo (tuple_at l.fn.d (l.fn.arity - 1) l.fn.row);
  so_far : AreTruthsTo l.f l.fn.arity l.fn.lo l.fn.d (l.fn.row * l.fn.d + l.x) l.truths.items;
}
