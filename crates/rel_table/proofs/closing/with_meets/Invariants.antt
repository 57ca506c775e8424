use Rattle.rel_table.proofs.Prelude.{◌≤◌, ◌++◌, take, length, List, All, Relation, IsInOrder, relations_in, IsOfKind}
use Rattle.rel_table.proofs.closing.with_meets.Given as goal

abbrev pub invariant-loop-meet : goal.invariant-loop-meet
invariant-loop-meet l = record {
  order : (relations : List Relation) → IsInOrder relations (relations_in l.fn.closed.items) → IsInOrder (relations ++ relations_in (take l.meet-index l.meet-items)) (relations_in l.grown.items);
  kinds : All (IsOfKind l.table.arity l.table.value_count) l.grown.items;
  few : length l.grown.items ≤ 64;
}
