-- What the bytes of a journal say.
use Rattle.std.specs.Prelude.{ℕ, ◌<◌, ◌≤◌, ◌≡◌, ◌≢◌, ◌⊎◌, false, List, [], ◌∷◌, ◌++◌, length, take}
use Rattle.assign.specs.declared.events.Plan.{Plan}
use Rattle.assign.specs.declared.events.Event.{Event}
use Rattle.answer_journal.specs.declared.record.Record.{Record}
use Rattle.answer_journal.specs.Storable.{IsStorableSession}
use Rattle.answer_journal.specs.Records.{events_among, is_raised_after, MayFollow, AreInOrder}
use Rattle.answer_journal.specs.Format.{MOST_RECORDS, MAGIC, written}

-- After these bytes comes a closed gate, and then anything.
pub record IsClosedAfter (front bytes : List ℕ) : Type 0 where
  pub gate : ℕ
  pub behind : List ℕ
  pub closed : gate ≢ 1
  pub is : bytes ≡ front ++ gate ∷ behind

-- The bytes are those of a session and these records: with the session's, and without the one that
-- raises the journal, at most 1,000,000.
pub record HoldsRecords (bytes : List ℕ) (plan : Plan) (voc : List ℕ) (records : List Record) :
    Type 0 where
  pub session : IsStorableSession plan voc
  pub in_order : AreInOrder false records
  pub few : length (events_among records) < MOST_RECORDS
  pub rest : IsClosedAfter (written plan voc records) bytes

-- The bytes spell a session with these events.
pub record Spells (bytes : List ℕ) (plan : Plan) (voc : List ℕ) (events : List Event) : Type 0 where
  pub records : List Record
  pub holds : HoldsRecords bytes plan voc records
  pub are : events_among records ≡ events

-- ---- Refusals

-- these bytes, an open or closed gate, and then anything
pub record HasGateBehind (front bytes : List ℕ) : Type 0 where
  pub gate : ℕ
  pub behind : List ℕ
  pub is : bytes ≡ front ++ gate ∷ behind

-- whole records stand from the magic on
pub data Front : Type 0 where
  Bare : Front
  Records : Plan → List ℕ → List Record → Front

abbrev pub front_bytes : Front → List ℕ
front_bytes Bare = MAGIC
front_bytes (Records plan voc records) = written plan voc records

-- in order, and at most 1,000,000 of them without the one that raises the journal
abbrev pub IsFront : Front → Type 0
IsFront Bare = Unit {0}
IsFront (Records plan voc records) = (IsStorableSession plan voc) × AreInOrder false records
    × (length (events_among records) < MOST_RECORDS)

-- one whole record more, and a gate behind it
abbrev pub HasNextRecord : Front → List ℕ → Type 0
HasNextRecord Bare bytes = (plan : Plan) × (voc : List ℕ) × (IsStorableSession plan voc)
    × HasGateBehind (written plan voc []) bytes
HasNextRecord (Records plan voc records) bytes =
    (r : Record) × MayFollow (is_raised_after false records) r
    × HasGateBehind (written plan voc (records ++ r ∷ [])) bytes

-- the open gate at this byte isn't followed by a whole record and a gate
pub record IsDamagedAt (at : ℕ) (bytes : List ℕ) : Type 0 where
  pub front : Front
  pub behind : List ℕ
  pub whole : IsFront front
  pub place : at ≡ length (front_bytes front)
  pub is : bytes ≡ front_bytes front ++ 1 ∷ behind
  pub no_record : HasNextRecord front bytes → ⊥

-- more whole records than the greatest number, without the one that raises the journal, each with a
-- gate behind it
pub record HasTooManyRecords (bytes : List ℕ) : Type 0 where
  pub plan : Plan
  pub voc : List ℕ
  pub records : List Record
  pub session : IsStorableSession plan voc
  pub in_order : AreInOrder false records
  pub many : length (events_among records) ≡ MOST_RECORDS
  pub rest : HasGateBehind (written plan voc records) bytes

-- what a journal says, or why it says nothing
pub data Reading : Type 0 where
  Session : Plan → List ℕ → List Event → Reading
  NoSession : Reading
  NotAJournal : Reading
  TooManyRecords : Reading
  Damaged : ℕ → Reading

-- there is no session in the bytes yet
abbrev pub HasNoSession : List ℕ → Type 0
HasNoSession bytes = (length bytes ≤ 9) ⊎ IsClosedAfter MAGIC bytes

abbrev pub ReadsAs : List ℕ → Reading → Type 0
ReadsAs bytes (Session plan voc events) = (9 < length bytes) × Spells bytes plan voc events
ReadsAs bytes NoSession = HasNoSession bytes
ReadsAs bytes NotAJournal = (9 < length bytes) × (take 8 bytes ≢ MAGIC)
ReadsAs bytes TooManyRecords = (9 < length bytes) × HasTooManyRecords bytes
ReadsAs bytes (Damaged at) = (9 < length bytes) × IsDamagedAt at bytes
