-- Bytes that a refusal, or a session, may be read from.
use Rattle.answer_journal.proofs.Prelude.{◌≡◌, ℕ, ◌+◌, ◌-◌, ◌<◌, ◌≤◌, Bool, false, List, [], ◌∷◌, ◌++◌, length, get_or, take, flat_map, inl, refl, sym, ◌∙◌, ap, subst, arith, length-append, length-take, Plan, Event, Record, IsStorableSession, MOST_RECORDS, MAGIC, session_tail, record_bytes, written, events_among, with_record, is_raised_after, MayFollow, IsClosedAfter, Bare, ReadsAs, Session, Stuck, AreRecordsRead, WereRead, BreaksOff, HoldsTooMany, EventsRefused, Refused, CreateRefused, JFault}
use Rattle.answer_journal.specs.declared.fault.JFault.TheVariants as faults
use Rattle.answer_journal.proofs.RecordLists.{events_among-push, AreInOrder-push, with_record-many}
use Rattle.answer_journal.proofs.Sizes.{session_size}
use Rattle.answer_journal.proofs.WholeFile.{refused}

-- ---- events

-- an open gate at the end
bare_stuck : (raised : Bool) → Stuck raised (1 ∷ [])
bare_stuck raised r gate behind may is = omega (arith, ap length is, length-append (record_bytes r) (gate ∷ behind))

pub breaks_off_somewhere : (records : List Record) (start at : ℕ) (events : List Event) (raised : Bool) → AreRecordsRead records start at events raised → (bytes : List ℕ) × BreaksOff start at bytes
breaks_off_somewhere records start at events raised read = (
  flat_map record_bytes records ++ 1 ∷ [],
  record { records = records; behind = []; in_order = read.in_order; few = subst (λ (l : List Event). length l < MOST_RECORDS) (sym read.are) read.few; place = read.place; is = refl; stuck = bare_stuck (is_raised_after false records) },
)

pub overflows_somewhere : (records : List Record) (start at : ℕ) (events : List Event) (raised : Bool) (r : Record) → AreRecordsRead records start at events raised → MayFollow raised r → MOST_RECORDS ≤ length (with_record events r) → (bytes : List ℕ) × HoldsTooMany bytes
overflows_somewhere records start at events raised r read may many = (
  flat_map record_bytes (records ++ r ∷ []) ++ 1 ∷ [],
  record {
    records = records ++ r ∷ [];
    in_order = AreInOrder-push false records r read.in_order (subst (λ (b : Bool). MayFollow b r) (sym read.raises) may);
    many = ap length (events_among-push records r ∙ ap (λ (l : List Event). with_record l r) read.are) ∙ with_record-many events r read.few many;
    rest = record { gate = 1; behind = []; is = refl };
  },
)

-- ---- files

pub no_session_somewhere : (bytes : List ℕ) × Refused bytes faults.NoSession
no_session_somewhere = ([], inl (omega arith))

-- ten bytes that begin otherwise
pub foreign_somewhere : (bytes : List ℕ) × Refused bytes faults.NotAJournal
foreign_somewhere =
    (0 ∷ 0 ∷ 0 ∷ 0 ∷ 0 ∷ 0 ∷ 0 ∷ 0 ∷ 0 ∷ 0 ∷ [], (omega arith, λ is. let other : 0 ≡ 0x51 = ap (λ (l : List ℕ). get_or l 0 0) is in omega (arith, other)))

-- an open first gate with a byte behind it
pub damaged_somewhere : (bytes : List ℕ) × Refused bytes (faults.Damaged 8)
damaged_somewhere = (
  MAGIC ++ 1 ∷ 0 ∷ [],
  (
    omega arith,
    record {
      front = Bare;
      behind = 0 ∷ [];
      whole = tt;
      place = refl;
      is = refl;
      no_record = λ n. omega (
        arith,
        ap length n.3.is,
        length-append (written n.0 n.1 []) (n.3.gate ∷ n.3.behind),
        length-append (MAGIC ++ 1 ∷ session_tail n.0 n.1) [],
        length-append MAGIC (1 ∷ session_tail n.0 n.1),
        session_size n.0 n.1,
      );
    },
  ),
)

-- the place behind a session's record that was read from a buffer
pub begins_at : (n : ℕ) (buffer tail rest : List ℕ) → n ≤ length buffer → take n buffer ≡ tail ++ rest → 9 + (n - length rest) ≡ 9 + length tail
begins_at n buffer tail rest fits found = omega (arith, fits, length-take n buffer, ap length found, length-append tail rest)

-- a session's record with these bytes behind it
pub refused_somewhere : (plan : Plan) (voc : List ℕ) (start : ℕ) (e : JFault) → IsStorableSession plan voc → start ≡ 9 + length (session_tail plan voc) → (rest : List ℕ) × EventsRefused start rest e → (bytes : List ℕ) × Refused bytes e
refused_somewhere plan voc start e session begins (rest, r) =
    let long : 9 < length (MAGIC ++ 1 ∷ (session_tail plan voc ++ rest)) = omega (arith, length-append MAGIC (1 ∷ (session_tail plan voc ++ rest)), length-append (session_tail plan voc) rest, session_size plan voc) in
    (MAGIC ++ 1 ∷ (session_tail plan voc ++ rest), refused (MAGIC ++ 1 ∷ (session_tail plan voc ++ rest)) long refl refl plan voc rest session refl start e begins r)

pub session_somewhere : (plan : Plan) (voc : List ℕ) (start at : ℕ) (events : List Event) (raised : Bool) → IsStorableSession plan voc → WereRead start at events raised → (bytes : List ℕ) × ReadsAs bytes (Session plan voc events)
session_somewhere plan voc start at events raised session (records, read) =
    let long : 9 < length (written plan voc records ++ 0 ∷ []) = omega (
      arith,
      length-append (written plan voc records) (0 ∷ []),
      length-append (MAGIC ++ 1 ∷ session_tail plan voc) (flat_map record_bytes records),
      length-append MAGIC (1 ∷ session_tail plan voc),
      session_size plan voc,
    ) in
    let few : length (events_among records) < MOST_RECORDS = subst (λ (l : List Event). length l < MOST_RECORDS) (sym read.are) read.few in
    let closed : IsClosedAfter (written plan voc records) (written plan voc records ++ 0 ∷ []) = record { gate = 0; behind = []; closed = λ is. omega (arith, is); is = refl } in
    (written plan voc records ++ 0 ∷ [], (long, record { records = records; holds = record { session = session; in_order = read.in_order; few = few; rest = closed }; are = read.are }))

-- ---- making

pub session_there_somewhere : (bytes : List ℕ) × CreateRefused bytes faults.SessionThere
session_there_somewhere = (MAGIC ++ 1 ∷ 0 ∷ [], (omega arith, refl, refl))

pub not_made_somewhere : (bytes : List ℕ) × CreateRefused bytes faults.NotAJournal
not_made_somewhere = foreign_somewhere
