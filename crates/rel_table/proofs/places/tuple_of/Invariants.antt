use Rattle.rel_table.proofs.Prelude.{◌≡◌, ◌-◌, ◌^◌, ◌<◌, ◌++◌, take, drop, replicate, tuple_at}
use Rattle.rel_table.proofs.places.tuple_of.Given as goal

abbrev pub invariant-loop-i : goal.invariant-loop-i
invariant-loop-i l = record {
  size : l.size ≡ l.d ^ (l.arity - l.i);
  rest : l.rest < l.d ^ (l.arity - l.i);
  taken : tuple_at l.d l.arity l.place ≡ take l.i l.tuple ++ tuple_at l.d (l.arity - l.i) l.rest;
  left : drop l.i l.tuple ≡ replicate (4 - l.i) 0;
}
