-- Each list of bytes has a reading.
use Rattle.answer_journal.proofs.Prelude.{◌≡◌, ℕ, zero, suc, ◌<◌, ◌≤◌, false, List, [], ◌∷◌, ◌++◌, length, take, drop, get_or, refl, sym, ◌∙◌, ap, subst, arith, ◌⊎◌, inl, inr, append_assoc, length-append, drop_at, take-append-drop, cases_eq, cases_lt, length-drop, Plan, Event, Record, IsStorableSession, MOST_RECORDS, MAGIC, session_tail, record_tail, record_bytes, written, events_among, is_raised_after, AreInOrder, Bare, Records, Reading, Session, NoSession, NotAJournal, TooManyRecords, Damaged, HasNoSession, ReadsAs, CreateRefused, written_split}
use Rattle.answer_journal.specs.Laws.{EachHasAReading, EachIsFreeOrRefused}
use Rattle.answer_journal.specs.declared.fault.JFault.TheVariants as faults
use Rattle.answer_journal.proofs.Append.{written-push}
use Rattle.answer_journal.proofs.EachRecord.{Decided, same_list, StandsBehind, stands_behind, BeginsBehind, begins_behind}
use Rattle.answer_journal.proofs.RecordLists.{events_among-push, AreInOrder-push, with_record-many}

abbrev HasReading : List ℕ → Type 0
HasReading bytes = (r : Reading) × ReadsAs bytes r

-- one record more
more_bytes : (plan : Plan) (voc : List ℕ) (rs : List Record) (r : Record) (rest : List ℕ) → written plan voc (rs ++ r ∷ []) ++ rest ≡ written plan voc rs ++ (record_bytes r ++ rest)
more_bytes plan voc rs r rest = ap (λ (l : List ℕ). l ++ rest) (written-push plan voc rs r) ∙ append_assoc (written plan voc rs) (record_bytes r) rest

-- a session's record alone
front_again : (plan : Plan) (voc rest : List ℕ) → written plan voc [] ++ rest ≡ MAGIC ++ 1 ∷ (session_tail plan voc ++ rest)
front_again plan voc rest = written_split plan voc [] rest

-- the same front leaves the same rest
front_off : (front xs ys : List ℕ) → front ++ xs ≡ front ++ ys → xs ≡ ys
front_off front xs ys e = sym (drop_at front xs (length front) refl) ∙ ap (λ (l : List ℕ). drop (length front) l) e ∙ drop_at front ys (length front) refl

-- ---- From the records that stand on

-- these records stand there, and then this gate and what is behind it
record StandsSo (bytes : List ℕ) (plan : Plan) (voc : List ℕ) (rs : List Record) (gate : ℕ) (behind : List ℕ) : Type 0 where
  pub long : 9 < length bytes
  pub storable : IsStorableSession plan voc
  pub in_order : AreInOrder false rs
  pub few : length (events_among rs) < MOST_RECORDS
  pub is : bytes ≡ written plan voc rs ++ gate ∷ behind

module _ (bytes : List ℕ) (plan : Plan) (voc : List ℕ) (rs : List Record) (gate : ℕ) (behind : List ℕ) (so : StandsSo bytes plan voc rs gate behind) where
  -- a closed gate ends them
  ended : (gate ≡ 1 → ⊥) → HasReading bytes
  ended closed = (
    Session plan voc (events_among rs),
    (
      so.long,
      record {
        records = rs;
        holds = record { session = so.storable; in_order = so.in_order; few = so.few; rest = record { gate = gate; behind = behind; closed = closed; is = so.is } };
        are = refl;
      },
    ),
  )

  -- an open one with no record behind it is damage
  damaged : gate ≡ 1 → (StandsBehind (is_raised_after false rs) behind → ⊥) → HasReading bytes
  damaged opened none =
      let is : bytes ≡ written plan voc rs ++ 1 ∷ behind = so.is ∙ ap (λ (g : ℕ). written plan voc rs ++ g ∷ behind) opened in (
        Damaged (length (written plan voc rs)),
        (
          so.long,
          record {
            front = Records plan voc rs;
            behind = behind;
            whole = (so.storable, so.in_order, so.few);
            place = refl;
            is = is;
            no_record = λ next.
                let r : Record = next.0 in
                let rest = next.2 in
                let same : 1 ∷ behind ≡ record_bytes r ++ rest.gate ∷ rest.behind = front_off (written plan voc rs) (1 ∷ behind) (record_bytes r ++ rest.gate ∷ rest.behind) (sym is ∙ rest.is ∙ more_bytes plan voc rs r (rest.gate ∷ rest.behind)) in
                none (record { entry = r; gate = rest.gate; behind = rest.behind; may = next.1; is = ap (λ (l : List ℕ). drop 1 l) same });
          },
        ),
      )

  -- a record more
  module _ (opened : gate ≡ 1) (next : StandsBehind (is_raised_after false rs) behind) where
    next_is : bytes ≡ written plan voc (rs ++ next.entry ∷ []) ++ next.gate ∷ next.behind
    next_is =
        so.is ∙ (λ i. written plan voc rs ++ opened i ∷ next.is i) ∙ sym (more_bytes plan voc rs next.entry (next.gate ∷ next.behind))

    next_in_order : AreInOrder false (rs ++ next.entry ∷ [])
    next_in_order = AreInOrder-push false rs next.entry so.in_order next.may

    one_too_many : MOST_RECORDS ≤ length (events_among (rs ++ next.entry ∷ [])) → HasReading bytes
    one_too_many many =
        let added = events_among-push rs next.entry in (
          TooManyRecords,
          (
            so.long,
            record {
              plan = plan;
              voc = voc;
              records = rs ++ next.entry ∷ [];
              session = so.storable;
              in_order = next_in_order;
              many = ap length added ∙ with_record-many (events_among rs) next.entry so.few (subst (λ (es : List Event). MOST_RECORDS ≤ length es) added many);
              rest = record { gate = next.gate; behind = next.behind; is = next_is };
            },
          ),
        )

    goes_on : length (events_among (rs ++ next.entry ∷ [])) < MOST_RECORDS → StandsSo bytes plan voc (rs ++ next.entry ∷ []) next.gate next.behind
    goes_on few = record { long = so.long; storable = so.storable; in_order = next_in_order; few = few; is = next_is }

    shorter : length next.behind < length behind
    shorter = omega (arith, ap length next.is, length-append (record_tail next.entry) (next.gate ∷ next.behind))

read_on : (fuel : ℕ) (bytes : List ℕ) (plan : Plan) (voc : List ℕ) (rs : List Record) (gate : ℕ) (behind : List ℕ) → length behind < fuel → StandsSo bytes plan voc rs gate behind → HasReading bytes
read_on zero bytes plan voc rs gate behind low so = absurd (omega arith)
read_on (suc fuel) bytes plan voc rs gate behind low so =
    go (cases_eq gate 1) (stands_behind (is_raised_after false rs) behind) (λ more g rest few stands. read_on fuel bytes plan voc more g rest few stands)
  where
    go : Decided (gate ≡ 1) → Decided (StandsBehind (is_raised_after false rs) behind) →
        ((more : List Record) (g : ℕ) (rest : List ℕ) → length rest < fuel → StandsSo bytes plan voc more g rest → HasReading bytes) → HasReading bytes
    go (inr closed) next again = ended bytes plan voc rs gate behind so closed
    go (inl opened) (inr none) again = damaged bytes plan voc rs gate behind so opened none
    go (inl opened) (inl next) again = count (cases_lt (length (events_among (rs ++ next.entry ∷ []))) MOST_RECORDS)
      where
        count : (length (events_among (rs ++ next.entry ∷ [])) < MOST_RECORDS) ⊎ (MOST_RECORDS ≤ length (events_among (rs ++ next.entry ∷ []))) → HasReading bytes
        count (inl few) =
            let less = shorter bytes plan voc rs gate behind so opened next in
            again (rs ++ next.entry ∷ []) next.gate next.behind (omega (arith, less, low)) (goes_on bytes plan voc rs gate behind so opened next few)
        count (inr many) = one_too_many bytes plan voc rs gate behind so opened next many

-- ---- From the magic on

module _ (bytes : List ℕ) (long : 9 < length bytes) where
  some_behind : (xs : List ℕ) → 0 < length xs → (x : ℕ) × (more : List ℕ) × (xs ≡ x ∷ more)
  some_behind [] some = absurd (omega arith)
  some_behind (x ∷ xs) some = (x, xs, refl)

  first_gate : (gate : ℕ) (behind : List ℕ) → bytes ≡ MAGIC ++ gate ∷ behind → Decided (gate ≡ 1) → Decided (BeginsBehind behind) → HasReading bytes
  first_gate gate behind is (inr closed) begins = (NoSession, inr (record { gate = gate; behind = behind; closed = closed; is = is }))
  first_gate gate behind is (inl opened) (inl begins) =
      read_on (suc (length begins.behind)) bytes begins.plan begins.voc [] begins.gate begins.behind (omega arith) (record {
        long = long;
        storable = begins.storable;
        in_order = tt;
        few = omega arith;
        is = is ∙ (λ i. MAGIC ++ opened i ∷ begins.is i) ∙ whole;
      })
    where
      whole : MAGIC ++ 1 ∷ (session_tail begins.plan begins.voc ++ begins.gate ∷ begins.behind) ≡ written begins.plan begins.voc [] ++ begins.gate ∷ begins.behind
      whole = sym (front_again begins.plan begins.voc (begins.gate ∷ begins.behind))
  first_gate gate behind is (inl opened) (inr none) =
      let at : bytes ≡ MAGIC ++ 1 ∷ behind = is ∙ ap (λ (g : ℕ). MAGIC ++ g ∷ behind) opened in (
        Damaged 8,
        (
          long,
          record {
            front = Bare;
            behind = behind;
            whole = tt;
            place = refl;
            is = at;
            no_record = λ next.
                let plan : Plan = next.0 in
                let voc : List ℕ = next.1 in
                let rest = next.3 in
                none (record {
                  plan = plan;
                  voc = voc;
                  gate = rest.gate;
                  behind = rest.behind;
                  storable = next.2;
                  is = ap (λ (l : List ℕ). drop 9 l) (sym at ∙ rest.is ∙ front_again plan voc (rest.gate ∷ rest.behind));
                });
          },
        ),
      )

  magic_first : Decided (take 8 bytes ≡ MAGIC) → HasReading bytes
  magic_first (inr other) = (NotAJournal, (long, other))
  magic_first (inl magic) =
      let rest = some_behind (drop 8 bytes) (omega (arith, length-drop 8 bytes)) in
      first_gate rest.0 rest.1 (sym (take-append-drop 8 bytes) ∙ (λ i. magic i ++ rest.2 i)) (cases_eq rest.0 1) (begins_behind rest.1)

by_length : (bytes : List ℕ) → (9 < length bytes) ⊎ (length bytes ≤ 9) → HasReading bytes
by_length bytes (inl long) = magic_first bytes long (same_list (take 8 bytes) MAGIC)
by_length bytes (inr short) = (NoSession, inl short)

pub each_reads : EachHasAReading
each_reads bytes = by_length bytes (cases_lt 9 (length bytes))

-- ---- Where a journal is made

abbrev IsFreeOrRefused : List ℕ → Type 0
IsFreeOrRefused bytes = HasNoSession bytes ⊎ CreateRefused bytes faults.SessionThere ⊎ CreateRefused bytes faults.NotAJournal

module _ (bytes : List ℕ) (long : 9 < length bytes) where
  first_looked : take 8 bytes ≡ MAGIC → (gate : ℕ) (behind : List ℕ) → bytes ≡ MAGIC ++ gate ∷ behind → Decided (gate ≡ 1) → IsFreeOrRefused bytes
  first_looked magic gate behind is (inl opened) = inr (inl (long, magic, ap (λ (l : List ℕ). get_or l 8 0) is ∙ opened))
  first_looked magic gate behind is (inr closed) = inl (inr (record { gate = gate; behind = behind; closed = closed; is = is }))

  magic_looked : Decided (take 8 bytes ≡ MAGIC) → IsFreeOrRefused bytes
  magic_looked (inr other) = inr (inr (long, other))
  magic_looked (inl magic) =
      let rest = some_behind bytes long (drop 8 bytes) (omega (arith, length-drop 8 bytes)) in
      first_looked magic rest.0 rest.1 (sym (take-append-drop 8 bytes) ∙ (λ i. magic i ++ rest.2 i)) (cases_eq rest.0 1)

length_looked : (bytes : List ℕ) → (9 < length bytes) ⊎ (length bytes ≤ 9) → IsFreeOrRefused bytes
length_looked bytes (inl long) = magic_looked bytes long (same_list (take 8 bytes) MAGIC)
length_looked bytes (inr short) = inl (inl short)

pub each_is_free : EachIsFreeOrRefused
each_is_free bytes = length_looked bytes (cases_lt 9 (length bytes))
