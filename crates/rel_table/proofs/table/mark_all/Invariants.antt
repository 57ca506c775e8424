use Rattle.rel_table.proofs.Prelude.{◌≡◌, take, drop, length, ◌^◌, first_fault, Marks, lists}
use Rattle.rel_table.proofs.table.mark_all.Given as goal

abbrev pub invariant-loop-i : goal.invariant-loop-i
invariant-loop-i l = record {
  size : length l.truth ≡ l.d ^ l.a;
  rest : first_fault l.a l.lo l.d l.i (drop l.i (lists l.tuples)) ≡ first_fault l.a l.lo l.d 0 (lists l.tuples);
  marks : Marks l.lo l.d (take l.i (lists l.tuples)) l.truth;
}
