-- What the steps of a journal's calls do to a disk.
use Rattle.std.specs.Prelude.{ℕ, ◌≡◌, ◌⊎◌, List, ◌∷◌, ◌++◌, Option, Some}
use Rattle.disk_model.specs.Disk.{Only, AddsNothing}
use Rattle.disk_model.specs.Moments.{LeavesOnly}
use Rattle.answer_journal.specs.Journal.{IsClosedAfter}

-- An open gate and these bytes stand behind the front.
pub record HasRecord (front rest bytes : List ℕ) : Type 0 where
  pub behind : List ℕ
  pub is : bytes ≡ front ++ 1 ∷ rest ++ behind

-- the gate behind the front is closed, or it is open and these bytes stand behind it
abbrev pub IsWithOrWithout : List ℕ → List ℕ → List ℕ → Type 0
IsWithOrWithout front rest bytes = IsClosedAfter front bytes ⊎ HasRecord front rest bytes
