-- What the records behind a session's say, and which may stand where.
use Rattle.std.specs.Prelude.{Bool, true, List, [], ◌∷◌, ◌++◌, IsTrue, IsFalse}
use Rattle.assign.specs.declared.events.Event.{Event}
use Rattle.assign.specs.declared.events.Event.TheVariants.{Answer, Back}
use Rattle.answer_journal.specs.declared.record.Record.{Record}
use Rattle.answer_journal.specs.declared.record.Record.TheVariants.{Added, Raising}
use Rattle.answer_journal.specs.Storable.{IsStorableEvent}

-- the events among the records, in order
abbrev pub events_among : List Record → List Event
events_among [] = []
events_among (Added event ∷ records) = event ∷ events_among records
events_among (Raising ∷ records) = events_among records

-- the events where this record is added
abbrev pub with_record : List Event → Record → List Event
with_record events (Added event) = events ++ event ∷ []
with_record events Raising = events

-- whether the journal is raised behind this record
abbrev pub is_raised_by : Bool → Record → Bool
is_raised_by raised (Added event) = raised
is_raised_by raised Raising = true

-- whether it is raised behind all of these
abbrev pub is_raised_after : Bool → List Record → Bool
is_raised_after raised [] = raised
is_raised_after raised (r ∷ records) = is_raised_after (is_raised_by raised r) records

-- a take-back has its place in a raised journal alone
abbrev pub HasPlace : Bool → Event → Type 0
HasPlace raised (Answer question said) = Unit {0}
HasPlace raised Back = IsTrue raised

-- What may stand next: an event, a take-back only where the journal is raised, and what raises it
-- only where it isn't.
abbrev pub MayFollow : Bool → Record → Type 0
MayFollow raised (Added event) = IsStorableEvent event × HasPlace raised event
MayFollow raised Raising = IsFalse raised

-- each record may stand where it stands
abbrev pub AreInOrder : Bool → List Record → Type 0
AreInOrder raised [] = Unit {0}
AreInOrder raised (r ∷ records) = MayFollow raised r × AreInOrder (is_raised_by raised r) records
