-- What a command over a journal says of one that isn't made or opened.
use Rattle.std.specs.Prelude.{◌≡◌, ◌∷◌, ◌++◌}
use Rattle.acq_said.specs.Prelude.{ℕ, List, [], Option, Some, None, Result, Err, codes, decimal}
use Rattle.acq_said.specs.Prelude.{SFault, fault_text, MatchOption}
use Rattle.acq_said.specs.Said.{IsSaid}
use Rattle.acq_said.specs.Saying.{Saying, saying}
use Rattle.acq_said.specs.declared.said.Unsaid.{Unsaid}
use Rattle.acq_said.specs.declared.said.Unsaid.TheVariants as unsaid
use Rattle.answer_journal.specs.declared.fault.JFault.TheVariants as journal
use Rattle.session_store.specs.declared.fault.SFault.TheVariants as store
use Rattle.acq_loop.specs.declared.ending.Ending.TheVariants as ending

-- ---- Texts

-- why a journal can't be made or opened
abbrev pub store_text : SFault → List ℕ
store_text (store.Journal journal.SessionThere) = codes "session there"
store_text (store.Journal journal.NoSession) = codes "no session"
store_text (store.Journal journal.NotAJournal) = codes "not a journal"
store_text (store.Journal (journal.Damaged at)) = codes "damaged " ++ decimal at
store_text (store.Journal journal.TooManyRecords) = codes "too many records"
store_text (store.Journal journal.Full) = codes "full"
store_text (store.Journal journal.DiskFault) = codes "disk fault"
store_text (store.Journal journal.Memory) = codes "memory"
store_text (store.Voc fault) = codes "vocabulary " ++ fault_text fault
store_text (store.Stray i) = codes "stray " ++ decimal i
store_text store.Memory = codes "memory"

-- what is said of it
abbrev pub refused_said : SFault → Saying
refused_said fault =
    saying (codes "refused journal " ++ (store_text fault ++ 10 ∷ [])) (ending.JournalRefused fault)

-- ---- Refusals

-- why nothing is said of a fault: memory was wanting, or the disk failed
abbrev pub untold : SFault → Option Unsaid
untold (store.Journal journal.DiskFault) = Some unsaid.DiskFault
untold (store.Journal journal.Memory) = Some unsaid.Memory
untold store.Memory = Some unsaid.Memory
untold fault = None

-- what a command without a session says of its fault: which one it is, or nothing
abbrev pub SaysRefusal : SFault → Result Saying Unsaid → Type 0
SaysRefusal fault said =
    MatchOption (untold fault) (IsSaid (refused_said fault) said) (λ why. said ≡ Err why)
