-- Why a store isn't made or opened.
use Rattle.std.specs.Prelude.{◌≡◌, ℕ, List, Some, None}
use Rattle.assign.specs.declared.events.Event.{Event}
use Rattle.assign.specs.declared.events.Plan.{Plan}
use Rattle.language.specs.Language.{Language}
use Rattle.answer_journal.specs.declared.fault.JFault.{JFault}
use Rattle.answer_journal.specs.declared.fault.JFault.TheVariants as journal
use Rattle.answer_journal.specs.Found.{Refused}
use Rattle.answer_journal.specs.Making.{CreateRefused}
use Rattle.voc_read.specs.declared.fault.VocFault.{VocFault}
use Rattle.voc_read.specs.Vocabulary.{IsVocabulary, refusal_of_vocabulary}
use Rattle.session_laws.specs.Session.{Stray}
use Rattle.session_store.specs.Left.{SaysSession}
use Rattle.session_store.specs.Replay.{replay}
use Rattle.session_store.specs.declared.fault.SFault.{SFault}
use Rattle.session_store.specs.declared.fault.SFault.TheVariants as store

-- the bytes of the file refuse a new journal, or the disk failed; want of memory isn't told so
abbrev pub JournalNotMade : List ℕ → JFault → Type 0
JournalNotMade bytes journal.Memory = ⊥
JournalNotMade bytes journal.SessionThere = CreateRefused bytes journal.SessionThere
JournalNotMade bytes journal.NotAJournal = CreateRefused bytes journal.NotAJournal
JournalNotMade bytes journal.DiskFault = Unit {0}
JournalNotMade bytes journal.NoSession = ⊥
JournalNotMade bytes (journal.Damaged at) = ⊥
JournalNotMade bytes journal.TooManyRecords = ⊥
JournalNotMade bytes journal.Full = ⊥

-- why no store is made of this vocabulary over a file with these bytes
abbrev pub NotMade : (voc bytes : List ℕ) → SFault → Type 0
NotMade voc bytes (store.Journal f) = (refusal_of_vocabulary voc ≡ None) × JournalNotMade bytes f
NotMade voc bytes (store.Voc f) = refusal_of_vocabulary voc ≡ Some f
NotMade voc bytes (store.Stray i) = ⊥
NotMade voc bytes store.Memory = Unit {0}

-- the bytes of the file are no journal, or the disk failed; want of memory isn't told so
abbrev pub JournalNotOpened : List ℕ → JFault → Type 0
JournalNotOpened bytes journal.Memory = ⊥
JournalNotOpened bytes journal.DiskFault = Unit {0}
JournalNotOpened bytes journal.SessionThere = ⊥
JournalNotOpened bytes journal.NoSession = Refused bytes journal.NoSession
JournalNotOpened bytes journal.NotAJournal = Refused bytes journal.NotAJournal
JournalNotOpened bytes (journal.Damaged at) = Refused bytes (journal.Damaged at)
JournalNotOpened bytes journal.TooManyRecords = Refused bytes journal.TooManyRecords
JournalNotOpened bytes journal.Full = ⊥

-- the vocabulary of the session that the bytes say is refused
pub record HasBadVocabulary (bytes : List ℕ) (fault : VocFault) : Type 0 where
  pub plan : Plan
  pub voc : List ℕ
  pub events : List Event
  pub reads : SaysSession bytes plan voc events
  pub refused : refusal_of_vocabulary voc ≡ Some fault

-- an event of the session that the bytes say has no place
pub record HasStray (bytes : List ℕ) (i : ℕ) : Type 0 where
  pub plan : Plan
  pub voc : List ℕ
  pub events : List Event
  pub reads : SaysSession bytes plan voc events
  pub lang : Language
  pub vocabulary : IsVocabulary voc lang
  pub stray : replay lang plan events ≡ Stray i

-- why no store is opened over a file with these bytes
abbrev pub NotOpened : List ℕ → SFault → Type 0
NotOpened bytes (store.Journal f) = JournalNotOpened bytes f
NotOpened bytes (store.Voc f) = HasBadVocabulary bytes f
NotOpened bytes (store.Stray i) = HasStray bytes i
NotOpened bytes store.Memory = Unit {0}

-- why the bytes give no language
abbrev pub NoLanguage : List ℕ → SFault → Type 0
NoLanguage voc (store.Journal f) = ⊥
NoLanguage voc (store.Voc f) = refusal_of_vocabulary voc ≡ Some f
NoLanguage voc (store.Stray i) = ⊥
NoLanguage voc store.Memory = Unit {0}

-- an event has no place in a session of this plan and vocabulary
pub record StraysFrom (plan : Plan) (voc : List ℕ) (events : List Event) (i : ℕ) : Type 0 where
  pub lang : Language
  pub vocabulary : IsVocabulary voc lang
  pub stray : replay lang plan events ≡ Stray i

-- why events lead to no session of this plan and vocabulary
abbrev pub NotLed : Plan → List ℕ → List Event → SFault → Type 0
NotLed plan voc events (store.Journal f) = ⊥
NotLed plan voc events (store.Voc f) = refusal_of_vocabulary voc ≡ Some f
NotLed plan voc events (store.Stray i) = StraysFrom plan voc events i
NotLed plan voc events store.Memory = Unit {0}
