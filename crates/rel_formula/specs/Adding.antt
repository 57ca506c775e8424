-- What a reading adds to the steps that were read before.
use Rattle.std.specs.Prelude.{◌≡◌, ◌≢◌, ℕ, ◌+◌, ◌*◌, ◌≤◌, List, ◌++◌, length, Result, Ok, Err, ⊤}
use Rattle.rel_formula.specs.declared.fault.FormulaFault.{FormulaFault}
use Rattle.rel_formula.specs.declared.fault.FormulaFault.TheVariants.{Memory}
use Rattle.rel_formula.specs.declared.reading.Reading.{Reading}
use Rattle.rel_formula.specs.declared.step.Step.{Step}

-- the stated tree was read from node start on, and its steps were added
pub record AddsSteps {Tree : Type 0} (steps_of : Tree → List Step)
    (stated : Result (Tree × ℕ) FormulaFault) (start : ℕ) (old new : Reading) : Type 0 where
  pub tree : Tree
  pub read : stated ≡ Ok (tree, new.next)
  pub steps : new.steps.items ≡ old.steps.items ++ steps_of tree
  pub few : length new.steps.items + 2 * start + 1 ≤ length old.steps.items + 2 * new.next
  pub nodes : new.next ≤ 200

-- the stated tree was added, or its fault is the answer, want of memory aside
abbrev pub ReadsSteps : {Tree : Type 0} → (Tree → List Step) → Result (Tree × ℕ) FormulaFault → ℕ →
    Reading → Reading → Result ⊤ FormulaFault → Type 0
ReadsSteps steps_of stated start old new (Ok _) = AddsSteps steps_of stated start old new
ReadsSteps steps_of stated start old new (Err fault) = fault ≢ Memory → stated ≡ Err fault
