use Rattle.language.proofs.Prelude.{◌≡◌, ◌+◌, ◌^◌, ◌≤◌, drop}
use Rattle.language.proofs.Placing.{place_from}
use Rattle.language.proofs.places.place_of_values.Given as goal

abbrev pub invariant-loop-v : goal.invariant-loop-v
invariant-loop-v l = record { is : place_from l.d 0 l.q l.variables ≡ place_from l.d l.place l.q (drop l.v-index l.variables); below : l.place + 1 ≤ l.d ^ l.v-index }
