-- A list of events, and the bytes that it is kept in.
use Rattle.std.specs.Prelude.{ℕ, ◌+◌, ◌-◌, ◌==◌, ◌≡◌, Bool, true, false, if◌then◌else◌, List, []}
use Rattle.std.specs.Prelude.{◌∷◌, length, take, drop, flat_map, All, Option, Some, None}
use Rattle.assign.specs.Assignment.{Assignment}
use Rattle.assign.specs.declared.events.Event.{Event}
use Rattle.assign.specs.declared.events.Event.TheVariants.{Answer, Back}
use Rattle.answer_journal.specs.Format.{said_byte, pairs_from}
use Rattle.answer_journal.specs.Pairs.{options_at}
use Rattle.answer_journal.specs.Storable.{IsStorableEvent}

-- events in order, and whether one more takes no memory
pub record EventList : Type 0 where
  pub items : List Event
  pub has_room : Bool

abbrev pub is_back : Event → Bool
is_back (Answer q said) = false
is_back Back = true

-- an entry: what was said, and each variable that has a value, with it; a 2 for a take-back
abbrev pub entry_bytes : Event → List ℕ
entry_bytes (Answer q said) = said_byte said ∷ pairs_from 0 q
entry_bytes Back = 2 ∷ []

abbrev pub answer_saying : Bool → Option Assignment → Event
answer_saying said (Some q) = Answer q said
answer_saying said None = Back

-- the event of an entry
abbrev pub event_in : List ℕ → Event
event_in [] = Back
event_in (said ∷ pairs) =
    if said == 2 then Back else answer_saying (said == 1) (options_at 128 0 pairs)

-- the events of the entries from this place on, which end at these places
abbrev pub events_from : ℕ → List ℕ → List ℕ → List Event
events_from start bytes [] = []
events_from start bytes (end ∷ ends) =
    event_in (take (end - start) bytes) ∷ events_from end (drop (end - start) bytes) ends

-- the places where the entries of these events end, which begin at this place
abbrev pub ends_from : ℕ → List Event → List ℕ
ends_from start [] = []
ends_from start (e ∷ events) =
    (start + length (entry_bytes e)) ∷ ends_from (start + length (entry_bytes e)) events

-- The bytes are the entries of these events, one after the other, which end at these places.
pub record AreKept (bytes ends : List ℕ) (events : List Event) : Type 0 where
  pub bytes_are : bytes ≡ flat_map entry_bytes events
  pub ends_are : ends ≡ ends_from 0 events
  pub storable : All IsStorableEvent events
