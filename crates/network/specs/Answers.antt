-- What a reading answers: a value, or the first fault.
use Rattle.std.specs.Prelude.{◌≡◌, ◌≢◌, Option, Some, None, Result, Ok, Err}
use Rattle.network.specs.declared.fault.NetFault.{NetFault}
use Rattle.network.specs.declared.fault.NetFault.TheVariants.{Memory}

-- goes on with the value, where there is one
abbrev pub then_on : {A B : Type 0} → Result A NetFault → (A → Result B NetFault) →
    Result B NetFault
then_on (Ok x) next = next x
then_on (Err fault) next = Err fault

-- goes on where nothing is refused
abbrev pub unless : {A : Type 0} → Option NetFault → Result A NetFault → Result A NetFault
unless None next = next
unless (Some fault) next = Err fault

-- the answer, seen as it is stated, is the stated one, want of memory aside
abbrev pub Reads : {A B : Type 0} → (A → B) → Result B NetFault → Result A NetFault → Type 0
Reads seen stated (Ok x) = stated ≡ Ok (seen x)
Reads seen stated (Err fault) = fault ≢ Memory → stated ≡ Err fault
