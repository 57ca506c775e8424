-- Lists of records, with one more.
use Rattle.answer_journal.proofs.Prelude.{◌≡◌, ℕ, ◌+◌, ◌<◌, ◌≤◌, Bool, true, List, [], ◌∷◌, ◌++◌, length, All, flat_map, refl, ◌∙◌, ap, arith, append-nil, length_push, Event, Record, Added, Raising, IsStorableEvent, MOST_RECORDS, record_bytes, events_among, with_record, is_raised_by, is_raised_after, MayFollow, AreInOrder, HasRoom, counted_with}
use Rattle.std.proofs.lemmas.List.Concat.{flat_map-append}
use Rattle.std.proofs.lemmas.List.Elements.{All-nil, All-cons}

pub bytes-push : (records : List Record) (r : Record) → flat_map record_bytes (records ++ r ∷ []) ≡ flat_map record_bytes records ++ record_bytes r
bytes-push records r = flat_map-append record_bytes records (r ∷ []) ∙ ap (λ (l : List ℕ). flat_map record_bytes records ++ l) (append-nil (record_bytes r))

with_record-cons : (e : Event) (events : List Event) (r : Record) → e ∷ with_record events r ≡ with_record (e ∷ events) r
with_record-cons e events (Added f) = refl
with_record-cons e events Raising = refl

pub events_among-push : (records : List Record) (r : Record) → events_among (records ++ r ∷ []) ≡ with_record (events_among records) r
events_among-push [] (Added e) = refl
events_among-push [] Raising = refl
events_among-push (Added e ∷ records) r = ap (λ (l : List Event). e ∷ l) (events_among-push records r) ∙ with_record-cons e (events_among records) r
events_among-push (Raising ∷ records) r = events_among-push records r

pub is_raised_after-push : (raised : Bool) (records : List Record) (r : Record) → is_raised_after raised (records ++ r ∷ []) ≡ is_raised_by (is_raised_after raised records) r
is_raised_after-push raised [] r = refl
is_raised_after-push raised (s ∷ records) r = is_raised_after-push (is_raised_by raised s) records r

pub AreInOrder-push : (raised : Bool) (records : List Record) (r : Record) → AreInOrder raised records → MayFollow (is_raised_after raised records) r → AreInOrder raised (records ++ r ∷ [])
AreInOrder-push raised [] r before may = (may, tt)
AreInOrder-push raised (s ∷ records) r before may = (before.0, AreInOrder-push (is_raised_by raised s) records r before.1 may)

pub with_record-count : (n : ℕ) (events : List Event) (r : Record) → n ≡ length events + 1 → counted_with n r ≡ length (with_record events r) + 1
with_record-count n events (Added e) is = omega (arith, is, length_push events e)
with_record-count n events Raising is = is

pub with_record-few : (n : ℕ) (events : List Event) (r : Record) → HasRoom n r → n ≡ length events + 1 → length events < MOST_RECORDS → length (with_record events r) < MOST_RECORDS
with_record-few n events (Added e) room is few = omega (arith, room, is, length_push events e)
with_record-few n events Raising room is few = few

pub with_record-many : (events : List Event) (r : Record) → length events < MOST_RECORDS → MOST_RECORDS ≤ length (with_record events r) → length (with_record events r) ≡ MOST_RECORDS
with_record-many events (Added e) few many = omega (arith, few, many, length_push events e)
with_record-many events Raising few many = absurd (omega (arith, few, many))

pub all_storable : (raised : Bool) (records : List Record) → AreInOrder raised records → All IsStorableEvent (events_among records)
all_storable raised [] o = All-nil IsStorableEvent
all_storable raised (Added e ∷ records) o = All-cons IsStorableEvent e (events_among records) o.0.0 (all_storable raised records o.1)
all_storable raised (Raising ∷ records) o = all_storable true records o.1
