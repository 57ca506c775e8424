use Rattle.rel_table.proofs.Prelude.{◌≡◌, ◌+◌, ◌^◌, ◌≤◌, take, place}
use Rattle.rel_table.proofs.table.place_of.Given as goal

abbrev pub invariant-loop-x : goal.invariant-loop-x
invariant-loop-x l = record { is : l.place ≡ place l.d (take l.x-index l.tuple); below : l.place + 1 ≤ l.d ^ l.x-index }
