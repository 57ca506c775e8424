-- Where a journal stands, and on which disk.
use Rattle.std.specs.Prelude.{ℕ, ◌+◌, ◌<◌, ◌≡◌, ◌⊎◌, Bool, true, false, IsTrue, IsFalse, List, []}
use Rattle.std.specs.Prelude.{◌∷◌, ◌++◌, length}
use Rattle.std.specs.Option.{ForSome}
use Rattle.assign.specs.declared.events.Plan.{Plan}
use Rattle.assign.specs.declared.events.Event.{Event}
use Rattle.disk_model.specs.Disk.{Only}
use Rattle.disk_model.specs.declared.disk.Disk.{Ghosts as DiskOf}
use Rattle.answer_journal.specs.declared.record.Record.{Record}
use Rattle.answer_journal.specs.declared.record.Record.TheVariants.{Added, Raising}
use Rattle.answer_journal.specs.Format.{MOST_RECORDS, written}
use Rattle.answer_journal.specs.Records.{events_among, with_record, is_raised_after, MayFollow}
use Rattle.answer_journal.specs.Journal.{HoldsRecords, Spells}

-- what a journal remembers of its file
pub record End : Type 0 where
  -- the place of the closed gate
  pub at : ℕ
  -- how many records stand before it, without the one that raises the journal
  pub records : ℕ
  -- whether that one is among them
  pub raised : Bool
  pub live : Bool

-- The journal stands behind all records of these bytes.
pub record Sits (place : End) (bytes : List ℕ) : Type 0 where
  pub plan : Plan
  pub voc : List ℕ
  pub records : List Record
  pub holds : HoldsRecords bytes plan voc records
  pub gate : place.at ≡ length (written plan voc records)
  pub count : place.records ≡ length (events_among records) + 1
  pub raised : place.raised ≡ is_raised_after false records

-- The journal may be written. Where the disk tells, the journal stands behind all records of what
-- it tells, and a crash leaves nothing else.
pub record IsInPlace {D : Type 0} (disk : DiskOf D) (place : End) (now : D) : Type 0 where
  pub live : IsTrue place.live
  pub sits : ForSome (disk.content now) (Sits place)
  pub durable : ForSome (disk.content now) (λ bytes. Only bytes (disk.may_leave now))

-- The journal stands where it stood, and may not be written any more.
pub record HasGivenUp (old new : End) : Type 0 where
  pub at : new.at ≡ old.at
  pub records : new.records ≡ old.records
  pub raised : new.raised ≡ old.raised
  pub not_live : IsFalse new.live

-- so many bytes more the record takes that raises a journal
abbrev pub room_to_raise : Bool → ℕ
room_to_raise true = 0
room_to_raise false = 7

-- a record more is counted, or isn't one that counts
abbrev pub HasRoom : ℕ → Record → Type 0
HasRoom records (Added event) = records < MOST_RECORDS
HasRoom records Raising = Unit {0}

-- how many records there are with this one
abbrev pub counted_with : ℕ → Record → ℕ
counted_with records (Added event) = records + 1
counted_with records Raising = records

-- This record may be added there.
pub record MayBeAdded (place : End) (r : Record) : Type 0 where
  pub follows : MayFollow place.raised r
  pub room : HasRoom place.records r

-- ---- what the old bytes spell

-- with what a record adds
abbrev pub HasAdded : List ℕ → Record → List ℕ → Type 0
HasAdded old r new = (plan : Plan) (voc : List ℕ) (events : List Event) →
    Spells old plan voc events → Spells new plan voc (with_record events r)

-- with what a record adds, or without it
abbrev pub IsOldOrAdded : List ℕ → Record → List ℕ → Type 0
IsOldOrAdded old r new = (plan : Plan) (voc : List ℕ) (events : List Event) →
    Spells old plan voc events →
    Spells new plan voc events ⊎ Spells new plan voc (with_record events r)

-- with the event as its last
abbrev pub HasNew : List ℕ → Event → List ℕ → Type 0
HasNew old event new = (plan : Plan) (voc : List ℕ) (events : List Event) →
    Spells old plan voc events → Spells new plan voc (events ++ event ∷ [])

-- with the event as its last or without it
abbrev pub IsOldOrNew : List ℕ → Event → List ℕ → Type 0
IsOldOrNew old event new = (plan : Plan) (voc : List ℕ) (events : List Event) →
    Spells old plan voc events →
    Spells new plan voc events ⊎ Spells new plan voc (events ++ event ∷ [])

-- as it was
abbrev pub IsSame : List ℕ → List ℕ → Type 0
IsSame old new = (plan : Plan) (voc : List ℕ) (events : List Event) → Spells old plan voc events →
    Spells new plan voc events
