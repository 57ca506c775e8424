use Rattle.rel_formula.proofs.Prelude.{◌≡◌, take, length, shown_tuple}
use Rattle.rel_formula.proofs.tables.shown_at.Given as goal

abbrev pub invariant-loop-i : goal.invariant-loop-i
invariant-loop-i l = record {
  len : length l.shown ≡ 4;
  values : take l.i l.shown ≡ shown_tuple l.fn.lo (take l.i l.tuple);
}
