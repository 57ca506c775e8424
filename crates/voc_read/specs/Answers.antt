-- What a reading answers: a value, or the first fault.
use Rattle.std.specs.Prelude.{◌≡◌, ◌≢◌, Option, Some, None, Result, Ok, Err}
use Rattle.voc_read.specs.declared.fault.VocFault.{VocFault}
use Rattle.voc_read.specs.declared.fault.VocFault.TheVariants.{Memory}

-- goes on with the value, where there is one
abbrev pub then_on : {A B : Type 0} → Result A VocFault → (A → Result B VocFault) →
    Result B VocFault
then_on (Ok x) next = next x
then_on (Err fault) next = Err fault

-- goes on where nothing is refused
abbrev pub unless : {A : Type 0} → Option VocFault → Result A VocFault → Result A VocFault
unless None next = next
unless (Some fault) next = Err fault

-- the answer, seen as it is stated, is the stated one, want of memory aside
abbrev pub Reads : {A B : Type 0} → (A → B) → Result B VocFault → Result A VocFault → Type 0
Reads seen stated (Ok x) = stated ≡ Ok (seen x)
Reads seen stated (Err fault) = fault ≢ Memory → stated ≡ Err fault

-- the answer refuses with the stated fault, or not at all, want of memory aside
abbrev pub Refuses : {A : Type 0} → Option VocFault → Result A VocFault → Type 0
Refuses refusal (Ok x) = refusal ≡ None
Refuses refusal (Err fault) = fault ≢ Memory → refusal ≡ Some fault
