use Rattle.rel_table.proofs.Prelude.{◌≡◌, take, map, All, meet, relations_in, IsOfKind}
use Rattle.rel_table.proofs.closing.meets_with.Given as goal

abbrev pub invariant-loop-other : goal.invariant-loop-other
invariant-loop-other l = record {
  meets : relations_in l.meets.items ≡ map (λ r. meet r l.table.truth) (relations_in (take l.other-index l.closed));
  kinds : All (IsOfKind l.table.arity l.table.value_count) l.meets.items;
}
