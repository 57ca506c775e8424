-- What is found in the bytes behind a session's record, and in a whole file.
use Rattle.std.specs.Prelude.{ℕ, ◌+◌, ◌<◌, ◌≤◌, ◌≡◌, IsFalse, Bool, false, List, ◌∷◌, ◌++◌, length}
use Rattle.std.specs.Prelude.{flat_map}
use Rattle.assign.specs.declared.events.Event.{Event}
use Rattle.answer_journal.specs.declared.fault.JFault.{JFault}
use Rattle.answer_journal.specs.declared.fault.JFault.TheVariants as faults
use Rattle.answer_journal.specs.declared.pieces.Reached.{Reached}
use Rattle.answer_journal.specs.declared.pieces.Reached.TheVariants.{Closed, Further}
use Rattle.answer_journal.specs.declared.record.Record.{Record}
use Rattle.answer_journal.specs.Format.{MOST_RECORDS, record_bytes}
use Rattle.answer_journal.specs.Records.{events_among, is_raised_after, AreInOrder}
use Rattle.answer_journal.specs.Journal.{IsClosedAfter, HasGateBehind, ReadsAs, NoSession}
use Rattle.answer_journal.specs.Journal.{NotAJournal, TooManyRecords, Damaged}
use Rattle.answer_journal.specs.Unique.{Stuck}

-- The records that were read from a start up to a place, with these events.
pub record AreRecordsRead (records : List Record) (start at : ℕ) (events : List Event)
    (raised : Bool) : Type 0 where
  pub in_order : AreInOrder false records
  pub few : length events < MOST_RECORDS
  pub are : events_among records ≡ events
  pub raises : is_raised_after false records ≡ raised
  pub place : at ≡ start + length (flat_map record_bytes records)

-- These events were read from a start up to a place.
abbrev pub WereRead : ℕ → ℕ → List Event → Bool → Type 0
WereRead start at events raised = (records : List Record)
    × AreRecordsRead records start at events raised

-- These records stand here, and then the rest, which begins with a gate.
pub record BeginsWith (bytes : List ℕ) (records : List Record) (rest : List ℕ) : Type 0 where
  pub some : 0 < length rest
  pub is : bytes ≡ flat_map record_bytes records ++ rest

-- These events stand here up to a closed gate at this place.
pub record HasEvents (start at : ℕ) (events : List Event) (raised : Bool) (bytes : List ℕ) :
    Type 0 where
  pub records : List Record
  pub read : AreRecordsRead records start at events raised
  pub rest : IsClosedAfter (flat_map record_bytes records) bytes

-- These events stand here up to a gate at this place.
pub record ReachesGate (start at : ℕ) (events : List Event) (raised : Bool) (bytes : List ℕ) :
    Type 0 where
  pub records : List Record
  pub rest : List ℕ
  pub read : AreRecordsRead records start at events raised
  pub begins : BeginsWith bytes records rest

-- Behind some records an open gate stands at this place with no whole record behind it.
pub record BreaksOff (start at : ℕ) (bytes : List ℕ) : Type 0 where
  pub records : List Record
  pub behind : List ℕ
  pub in_order : AreInOrder false records
  pub few : length (events_among records) < MOST_RECORDS
  pub place : at ≡ start + length (flat_map record_bytes records)
  pub is : bytes ≡ flat_map record_bytes records ++ 1 ∷ behind
  pub stuck : Stuck (is_raised_after false records) (1 ∷ behind)

-- More events stand here than a journal may have.
pub record HoldsTooMany (bytes : List ℕ) : Type 0 where
  pub records : List Record
  pub in_order : AreInOrder false records
  pub many : length (events_among records) ≡ MOST_RECORDS
  pub rest : HasGateBehind (flat_map record_bytes records) bytes

-- why the events of these bytes, which begin at the place start, aren't read
abbrev pub EventsRefused : ℕ → List ℕ → JFault → Type 0
EventsRefused start bytes (faults.Damaged at) = BreaksOff start at bytes
EventsRefused start bytes faults.TooManyRecords = HoldsTooMany bytes
EventsRefused start bytes faults.Memory = Unit {0}
EventsRefused start bytes faults.SessionThere = ⊥
EventsRefused start bytes faults.NoSession = ⊥
EventsRefused start bytes faults.NotAJournal = ⊥
EventsRefused start bytes faults.Full = ⊥
EventsRefused start bytes faults.DiskFault = ⊥

-- the place of the gate that a piece was read up to
abbrev pub gate_reached : Reached → ℕ
gate_reached (Closed place) = place
gate_reached (Further place) = place

-- the gate there is closed, or the bytes go on behind the events
abbrev pub IsReached : ℕ → List Event → Bool → List ℕ → Reached → Type 0
IsReached start events raised bytes (Closed place) = HasEvents start place events raised bytes
IsReached start events raised bytes (Further place) = ReachesGate start place events raised bytes

-- some bytes were read, if the piece was left before its end
abbrev pub IsProgress : ℕ → Reached → Type 0
IsProgress at (Closed place) = Unit {0}
IsProgress at (Further place) = at < place

-- a piece that isn't the last was read to its end, but for a record that may go on past it
abbrev pub IsFar : (is_last : Bool) (at size : ℕ) → Reached → Type 0
IsFar is_last at size (Closed place) = Unit {0}
IsFar is_last at size (Further place) = IsFalse is_last × (at + size ≤ place + 264)

-- why a file isn't opened
abbrev pub Refused : List ℕ → JFault → Type 0
Refused bytes faults.SessionThere = ⊥
Refused bytes faults.NoSession = ReadsAs bytes NoSession
Refused bytes faults.NotAJournal = ReadsAs bytes NotAJournal
Refused bytes (faults.Damaged at) = ReadsAs bytes (Damaged at)
Refused bytes faults.TooManyRecords = ReadsAs bytes TooManyRecords
Refused bytes faults.Full = ⊥
Refused bytes faults.DiskFault = ⊥
Refused bytes faults.Memory = Unit {0}
