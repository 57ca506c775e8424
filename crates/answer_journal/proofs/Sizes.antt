-- How long the records are.
use Rattle.answer_journal.proofs.Prelude.{◌≡◌, ℕ, ◌+◌, ◌*◌, ◌≤◌, Bool, true, false, List, [], ◌∷◌, length, flat_map, refl, ap, arith, length-append, Plan, Event, Answer, Back, Record, Added, Raising, MOST_RECORDS, session_tail, record_tail, record_bytes, pairs_from, events_among, is_raised_by, is_raised_after, MayFollow, AreInOrder, HasRoom, room_to_raise, counted_with, AreRecordsRead, pairs_size, given_few}

pub tail_size : (raised : Bool) (r : Record) → MayFollow raised r → length (record_tail r) ≤ 263
unfolding record_tail
tail_size raised (Added (Answer q said)) may = let few : length (pairs_from 0 q) ≤ 256 = omega (arith, pairs_size 0 q, given_few q, may.0.size) in omega arith
tail_size raised (Added Back) may = omega arith
tail_size raised Raising may = omega arith

raising_size : length (record_tail Raising) ≡ 6
unfolding record_tail
raising_size = refl

pub counted_fits : (n : ℕ) (r : Record) → n ≤ MOST_RECORDS → HasRoom n r → counted_with n r ≤ MOST_RECORDS
counted_fits n (Added e) few room = omega (arith, room)
counted_fits n Raising few room = few

-- one record more, with its gate, and what raising would take
pub room_left : (raised : Bool) (r : Record) (n : ℕ) → MayFollow raised r → length (record_bytes r) + room_to_raise (is_raised_by raised r) + 264 * n ≤ 264 * counted_with n r + room_to_raise raised
room_left raised (Added e) n may = omega (arith, tail_size raised (Added e) may)
room_left true Raising n may = absurd cc
room_left false Raising n may = omega (arith, raising_size)

pub records_size : (raised : Bool) (rs : List Record) → AreInOrder raised rs → length (flat_map record_bytes rs) + room_to_raise (is_raised_after raised rs) ≤ 264 * length (events_among rs) + room_to_raise raised
records_size raised [] o = omega arith
records_size raised (Added e ∷ rs) o = omega (arith, tail_size raised (Added e) o.0, records_size raised rs o.1, length-append (record_bytes (Added e)) (flat_map record_bytes rs))
records_size true (Raising ∷ rs) o = let wrong = o.0 in absurd cc
records_size false (Raising ∷ rs) o = omega (arith, raising_size, records_size true rs o.1, length-append (record_bytes Raising) (flat_map record_bytes rs))

pub read_size : (records : List Record) (start at : ℕ) (events : List Event) (raised : Bool) → AreRecordsRead records start at events raised → at + room_to_raise raised ≤ start + 264 * length events + 7
read_size records start at events raised r = omega (arith, r.place, records_size false records r.in_order, ap length r.are, ap room_to_raise r.raises)

pub session_size : (plan : Plan) (voc : List ℕ) → length (session_tail plan voc) ≡ 6 + length voc
unfolding session_tail
session_size plan voc = omega arith
