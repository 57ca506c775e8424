use Rattle.rel_table.proofs.Prelude.{◌≡◌, ◌+◌, ◌^◌, ◌≤◌, take, place_of_shown}
use Rattle.rel_table.proofs.table.place_of_shown.Given as goal

abbrev pub invariant-loop-x : goal.invariant-loop-x
invariant-loop-x l = record { is : l.place ≡ place_of_shown l.lo l.d (take l.x-index l.tuple); below : l.place + 1 ≤ l.d ^ l.x-index }
