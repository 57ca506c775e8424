-- What a file opens with: a session, or the reason why there is none.
use Rattle.std.specs.Prelude.{◌≡◌, IfErr, ℕ, Bool, true, false, List, Result, Ok, Err}
use Rattle.assign.specs.declared.events.Event.{Event}
use Rattle.assign.specs.declared.events.Plan.{Plan}
use Rattle.language.specs.Language.{Language}
use Rattle.answer_journal.specs.declared.fault.JFault.TheVariants as journal
use Rattle.voc_read.specs.Vocabulary.{IsVocabulary}
use Rattle.voc_read.specs.Want.{wants_memory as voc_wants}
use Rattle.session_store.specs.Left.{SaysSession}
use Rattle.session_store.specs.Opening.{NotOpened}
use Rattle.session_store.specs.Replay.{HavePlaces}
use Rattle.session_store.specs.declared.fault.SFault.{SFault}
use Rattle.session_store.specs.declared.fault.SFault.TheVariants as store

-- a session that was opened: its plan, the bytes of its vocabulary, its events and its language
pub record Opened : Type 0 where
  pub plan : Plan
  pub voc : List ℕ
  pub events : List Event
  pub lang : Language

abbrev pub opened_as : Plan → List ℕ → List Event → Language → Opened
opened_as plan voc events lang = record { plan = plan; voc = voc; events = events; lang = lang }

-- its language is the reading of its vocabulary, and each of its events has a place
pub record IsSession (o : Opened) : Type 0 where
  pub read : IsVocabulary o.voc o.lang
  pub places : HavePlaces o.lang o.plan o.events

-- the bytes say it
pub record SaysOpened (bytes : List ℕ) (o : Opened) : Type 0 where
  pub says : SaysSession bytes o.plan o.voc o.events
  pub session : IsSession o

-- whether a fault is one of the bytes; else the disk failed, or memory was wanting
abbrev pub is_of_bytes : SFault → Bool
is_of_bytes (store.Journal journal.SessionThere) = true
is_of_bytes (store.Journal journal.NoSession) = true
is_of_bytes (store.Journal journal.NotAJournal) = true
is_of_bytes (store.Journal (journal.Damaged at)) = true
is_of_bytes (store.Journal journal.TooManyRecords) = true
is_of_bytes (store.Journal journal.Full) = true
is_of_bytes (store.Journal journal.DiskFault) = false
is_of_bytes (store.Journal journal.Memory) = false
is_of_bytes (store.Voc fault) = true
is_of_bytes (store.Stray i) = true
is_of_bytes store.Memory = false

-- why these bytes aren't opened, where they are to blame
abbrev pub RefusesOpening : List ℕ → SFault → Type 0
RefusesOpening bytes fault = (is_of_bytes fault ≡ true) × NotOpened bytes fault

-- the bytes open with this session, or are refused for this reason
abbrev pub Opens : List ℕ → Result Opened SFault → Type 0
Opens bytes (Ok o) = SaysOpened bytes o
Opens bytes (Err fault) = RefusesOpening bytes fault

-- no bytes open in two ways
abbrev pub OpensOnce : Type 0
OpensOnce = (bytes : List ℕ) (one other : Result Opened SFault) → Opens bytes one →
    Opens bytes other → one ≡ other

-- want of memory, its own or its vocabulary's
abbrev pub wants_memory : SFault → Bool
wants_memory store.Memory = true
wants_memory (store.Journal journal.Memory) = true
wants_memory (store.Voc fault) = voc_wants fault
wants_memory other = false

-- each list of bytes opens with a session, or is refused, and not for want of memory
abbrev pub OpensAlways : Type 0
OpensAlways = (bytes : List ℕ) → (answer : Result Opened SFault) × Opens bytes answer
    × IfErr answer (λ fault. wants_memory fault ≡ false)
