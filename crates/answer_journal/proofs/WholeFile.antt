-- What a whole file says.
use Rattle.answer_journal.proofs.Prelude.{◌≡◌, ℕ, ◌+◌, ◌<◌, Bool, List, [], ◌∷◌, ◌++◌, length, get_or, take, drop, flat_map, inr, refl, sym, ◌∙◌, ap, subst, arith, append_assoc, length-append, take-append-drop, drop_at, append_cancel_left, drop_more, Plan, Event, Record, IsStorableSession, MOST_RECORDS, MAGIC, session_tail, record_bytes, written, End, Sits, HoldsRecords, Spells, Bare, Records, IsDamagedAt, HasTooManyRecords, HasNoSession, written_split, HasEvents, BreaksOff, HoldsTooMany, EventsRefused, Refused, JFault}
use Rattle.answer_journal.specs.declared.fault.JFault.TheVariants as faults
use Rattle.answer_journal.proofs.Append.{written-push}

-- a file that begins with the magic, and its first gate
pub headed : (bytes : List ℕ) → 9 < length bytes → take 8 bytes ≡ MAGIC → bytes ≡ MAGIC ++ get_or bytes 8 0 ∷ drop 9 bytes
headed bytes long magic = sym (take-append-drop 8 bytes) ∙ (λ i. magic i ++ drop_more bytes 8 0 (omega arith) i)

pub shut : (bytes : List ℕ) → 9 < length bytes → take 8 bytes ≡ MAGIC → (get_or bytes 8 0 ≡ 1 → ⊥) → HasNoSession bytes
shut bytes long magic closed = inr (record { gate = get_or bytes 8 0; behind = drop 9 bytes; closed = closed; is = headed bytes long magic })

-- the place behind a session's record and these records
pub place_is : (plan : Plan) (voc : List ℕ) (records : List Record) (start at : ℕ) → start ≡ 9 + length (session_tail plan voc) → at ≡ start + length (flat_map record_bytes records) → at ≡ length (written plan voc records)
place_is plan voc records start at begins is = omega (arith, begins, is, length-append (MAGIC ++ 1 ∷ session_tail plan voc) (flat_map record_bytes records), length-append MAGIC (1 ∷ session_tail plan voc))

module _ (bytes : List ℕ) (long : 9 < length bytes) (magic : take 8 bytes ≡ MAGIC) (is_open : get_or bytes 8 0 ≡ 1) where
  open_is : bytes ≡ MAGIC ++ 1 ∷ drop 9 bytes
  open_is = headed bytes long magic ∙ ap (λ (g : ℕ). MAGIC ++ g ∷ drop 9 bytes) is_open

  pub damaged_first : ((plan : Plan) (voc : List ℕ) (gate : ℕ) (behind : List ℕ) → IsStorableSession plan voc → drop 9 bytes ≡ session_tail plan voc ++ gate ∷ behind → ⊥) → IsDamagedAt 8 bytes
  damaged_first none = record {
    front = Bare;
    behind = drop 9 bytes;
    whole = tt;
    place = refl;
    is = open_is;
    no_record = λ n. none n.0 n.1 n.3.gate n.3.behind n.2 (ap (λ (l : List ℕ). drop 9 l) (n.3.is ∙ written_split n.0 n.1 [] (n.3.gate ∷ n.3.behind)));
  }

  module _ (plan : Plan) (voc rest : List ℕ) (session : IsStorableSession plan voc) (spelled : drop 9 bytes ≡ session_tail plan voc ++ rest) where
    session_is : bytes ≡ MAGIC ++ 1 ∷ (session_tail plan voc ++ rest)
    session_is = open_is ∙ ap (λ (l : List ℕ). MAGIC ++ 1 ∷ l) spelled

    -- what stands from the place behind the session's record on
    pub rest_is : (start : ℕ) → start ≡ 9 + length (session_tail plan voc) → drop start bytes ≡ rest
    rest_is start begins =
        ap (λ (l : List ℕ). drop start l) (session_is ∙ sym (append_assoc (MAGIC ++ 1 ∷ []) (session_tail plan voc) rest))
        ∙ drop_at (MAGIC ++ 1 ∷ session_tail plan voc) rest start (omega (arith, begins, length-append MAGIC (1 ∷ session_tail plan voc)))

    -- behind the session's record stand these
    records_are : (records : List Record) (more : List ℕ) → rest ≡ flat_map record_bytes records ++ more → bytes ≡ written plan voc records ++ more
    records_are records more is = session_is ∙ ap (λ (l : List ℕ). MAGIC ++ 1 ∷ (session_tail plan voc ++ l)) is ∙ sym (written_split plan voc records more)

    pub holds : (start at : ℕ) (events : List Event) (raised : Bool) (h : HasEvents start at events raised rest) → HoldsRecords bytes plan voc h.records
    holds start at events raised h = record {
      session = session;
      in_order = h.read.in_order;
      few = subst (λ (l : List Event). length l < MOST_RECORDS) (sym h.read.are) h.read.few;
      rest = record { gate = h.rest.gate; behind = h.rest.behind; closed = h.rest.closed; is = records_are h.records (h.rest.gate ∷ h.rest.behind) h.rest.is };
    }

    pub spells : (start at : ℕ) (events : List Event) (raised : Bool) → HasEvents start at events raised rest → Spells bytes plan voc events
    spells start at events raised h = record { records = h.records; holds = holds start at events raised h; are = h.read.are }

    pub sits : (start at : ℕ) (events : List Event) (raised : Bool) (place : End) → start ≡ 9 + length (session_tail plan voc) → HasEvents start at events raised rest
        → place.at ≡ at → place.records ≡ length events + 1 → place.raised ≡ raised → Sits place bytes
    sits start at events raised place begins h at_is records_is raised_is = record {
      plan = plan;
      voc = voc;
      records = h.records;
      holds = holds start at events raised h;
      gate = at_is ∙ place_is plan voc h.records start at begins h.read.place;
      count = records_is ∙ sym (ap (λ (l : List Event). length l + 1) h.read.are);
      raised = raised_is ∙ sym h.read.raises;
    }

    pub damaged : (start at : ℕ) → start ≡ 9 + length (session_tail plan voc) → BreaksOff start at rest → IsDamagedAt at bytes
    damaged start at begins b = record {
      front = Records plan voc b.records;
      behind = b.behind;
      whole = (session, b.in_order, b.few);
      place = place_is plan voc b.records start at begins b.place;
      is = records_are b.records (1 ∷ b.behind) b.is;
      no_record = λ n. b.stuck n.0 n.2.gate n.2.behind n.1 (append_cancel_left (written plan voc b.records) (1 ∷ b.behind) (record_bytes n.0 ++ n.2.gate ∷ n.2.behind)
          (sym (records_are b.records (1 ∷ b.behind) b.is) ∙ n.2.is ∙ ap (λ (l : List ℕ). l ++ n.2.gate ∷ n.2.behind) (written-push plan voc b.records n.0) ∙ append_assoc (written plan voc b.records) (record_bytes n.0) (n.2.gate ∷ n.2.behind)));
    }

    pub too_many : HoldsTooMany rest → HasTooManyRecords bytes
    too_many o = record { plan = plan; voc = voc; records = o.records; session = session; in_order = o.in_order; many = o.many; rest = record { gate = o.rest.gate; behind = o.rest.behind; is = records_are o.records (o.rest.gate ∷ o.rest.behind) o.rest.is } }

    pub refused : (start : ℕ) (e : JFault) → start ≡ 9 + length (session_tail plan voc) → EventsRefused start rest e → Refused bytes e
    refused start (faults.Damaged at) begins b = (long, damaged start at begins b)
    refused start faults.TooManyRecords begins o = (long, too_many o)
    refused start faults.Memory begins none = tt
    refused start faults.SessionThere begins none = none
    refused start faults.NoSession begins none = absurd none
    refused start faults.NotAJournal begins none = absurd none
    refused start faults.Full begins none = none
    refused start faults.DiskFault begins none = none
