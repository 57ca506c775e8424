-- What making a journal leaves.
use Rattle.std.specs.Prelude.{ℕ, ◌<◌, ◌≡◌, ◌≢◌, ◌⊎◌, List, [], length, take, slice_index}
use Rattle.assign.specs.declared.events.Plan.{Plan}
use Rattle.answer_journal.specs.declared.fault.JFault.{JFault}
use Rattle.answer_journal.specs.declared.fault.JFault.TheVariants as faults
use Rattle.answer_journal.specs.Format.{MAGIC}
use Rattle.answer_journal.specs.Journal.{Spells, HasNoSession}

-- the bytes spell this session, with no event
abbrev pub StartsWith : Plan → List ℕ → List ℕ → Type 0
StartsWith plan voc bytes = Spells bytes plan voc []

-- what a crash leaves while a journal is made
abbrev pub IsCreating : (List ℕ → Type 0) → Plan → List ℕ → List ℕ → Type 0
IsCreating before plan voc bytes = before bytes ⊎ HasNoSession bytes ⊎ StartsWith plan voc bytes

-- why no journal is made
abbrev pub CreateRefused : List ℕ → JFault → Type 0
CreateRefused bytes faults.SessionThere = (9 < length bytes) × (take 8 bytes ≡ MAGIC)
    × (slice_index bytes 8 ≡ 1)
CreateRefused bytes faults.NotAJournal = (9 < length bytes) × (take 8 bytes ≢ MAGIC)
CreateRefused bytes faults.Memory = HasNoSession bytes
CreateRefused bytes faults.DiskFault = Unit {0}
CreateRefused bytes faults.NoSession = ⊥
CreateRefused bytes (faults.Damaged at) = ⊥
CreateRefused bytes faults.TooManyRecords = ⊥
CreateRefused bytes faults.Full = ⊥
