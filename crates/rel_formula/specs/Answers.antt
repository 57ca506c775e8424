-- What a reading answers: a value, or the first fault.
use Rattle.std.specs.Prelude.{Option, Some, None, Result, Ok, Err}
use Rattle.rel_formula.specs.declared.fault.FormulaFault.{FormulaFault}

-- goes on with the value, where there is one
abbrev pub then_on : {A B : Type 0} → Result A FormulaFault → (A → Result B FormulaFault) →
    Result B FormulaFault
then_on (Ok x) next = next x
then_on (Err fault) next = Err fault

-- goes on where nothing is refused
abbrev pub unless : {A : Type 0} → Option FormulaFault → Result A FormulaFault →
    Result A FormulaFault
unless None next = next
unless (Some fault) next = Err fault
