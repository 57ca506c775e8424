-- No bytes are read in two ways: which of the readings holds is a fact of the bytes.
use Rattle.answer_journal.proofs.Prelude.{◌≡◌, ℕ, ◌<◌, ◌≤◌, Bool, false, List, [], ◌∷◌, ◌++◌, length, get_or, take, flat_map, inl, inr, refl, sym, ◌∙◌, ap, subst, arith, append_assoc, Plan, Event, Record, Added, Raising, IsStorableSession, MAGIC, session_tail, record_bytes, written, events_among, is_raised_by, is_raised_after, AreInOrder, HoldsRecords, Front, Bare, Records, front_bytes, IsFront, HasNextRecord, IsDamagedAt, HasTooManyRecords, Reading, Session, NoSession, NotAJournal, TooManyRecords, Damaged, ReadsAs, Stuck, closed_stuck, first_once, none_follows, records_more, written_split, sessions_once, written_apart, spells_once}
use Rattle.answer_journal.proofs.Append.{written-push}

-- one record more
push_split : (plan : Plan) (voc : List ℕ) (rs : List Record) (r : Record) (rest : List ℕ) → written plan voc (rs ++ r ∷ []) ++ rest ≡ written plan voc rs ++ (record_bytes r ++ rest)
push_split plan voc rs r rest = ap (λ (l : List ℕ). l ++ rest) (written-push plan voc rs r) ∙ append_assoc (written plan voc rs) (record_bytes r) rest

-- what a damaged place behind records is stuck on
stuck_here : (plan : Plan) (voc : List ℕ) (rs : List Record) (behind bytes : List ℕ) → bytes ≡ written plan voc rs ++ 1 ∷ behind → (HasNextRecord (Records plan voc rs) bytes → ⊥) → Stuck (is_raised_after false rs) (1 ∷ behind)
stuck_here plan voc rs behind bytes is none r gate more may same =
    none (r, may, record { gate = gate; behind = more; is = is ∙ ap (λ (l : List ℕ). written plan voc rs ++ l) same ∙ sym (push_split plan voc rs r (gate ∷ more)) })

-- a session's record stands behind the first gate, open, and then a gate
has_next : (plan : Plan) (voc : List ℕ) (rs : List Record) (gate : ℕ) (behind bytes : List ℕ) → IsStorableSession plan voc → bytes ≡ written plan voc rs ++ gate ∷ behind → HasNextRecord Bare bytes
has_next plan voc rs gate behind bytes short is =
    let more = records_more rs gate behind in
    (plan, voc, short, record { gate = more.0; behind = more.1; is = is ∙ written_split plan voc rs (gate ∷ behind) ∙ ap (λ (l : List ℕ). MAGIC ++ 1 ∷ (session_tail plan voc ++ l)) more.2 ∙ sym (written_split plan voc [] (more.0 ∷ more.1)) })

-- with the same record in front there are no more events either
no_more_with : (r : Record) (rs ss : List Record) → length (events_among ss) ≤ length (events_among rs) → length (events_among (r ∷ ss)) ≤ length (events_among (r ∷ rs))
no_more_with (Added e) rs ss few = omega (arith, few)
no_more_with Raising rs ss few = few

-- fewer records are stuck: so no records with more events stand there
no_more : (raised : Bool) (rs ss : List Record) (g : ℕ) (b : List ℕ) (h : ℕ) (d : List ℕ) → AreInOrder raised rs → AreInOrder raised ss → Stuck (is_raised_after raised rs) (g ∷ b)
    → flat_map record_bytes rs ++ g ∷ b ≡ flat_map record_bytes ss ++ h ∷ d → length (events_among ss) ≤ length (events_among rs)
no_more raised rs [] g b h d fits good stuck e = omega arith
no_more raised [] (s ∷ ss) g b h d fits good stuck e = absurd (none_follows raised g b s ss h d good.0 stuck e)
no_more raised (r ∷ rs) (s ∷ ss) g b h d fits good stuck e =
    let first = first_once raised r rs g b s ss h d fits.0 good.0 e in
    let rest = no_more (is_raised_by raised r) rs ss g b h d fits.1 (subst (λ (t : Record). AreInOrder (is_raised_by raised t) ss) (sym first.0) good.1) stuck first.1 in
    subst (λ (t : Record). length (events_among (t ∷ ss)) ≤ length (events_among (r ∷ rs))) first.0 (no_more_with r rs ss rest)

-- too many records, and records that are stuck before
many_apart : (p : Plan) (v : List ℕ) (rs : List Record) (q : Plan) (w : List ℕ) (ss : List Record) (g : ℕ) (b : List ℕ) (h : ℕ) (d : List ℕ) → IsStorableSession p v → IsStorableSession q w → AreInOrder false rs → AreInOrder false ss → Stuck (is_raised_after false rs) (g ∷ b)
    → written p v rs ++ g ∷ b ≡ written q w ss ++ h ∷ d → length (events_among ss) ≤ length (events_among rs)
many_apart p v rs q w ss g b h d short small fits good stuck e = no_more false rs ss g b h d fits good stuck (sessions_once p v rs (g ∷ b) q w ss (h ∷ d) short small e).2

begins : (plan : Plan) (voc : List ℕ) (rs : List Record) (more bytes : List ℕ) → bytes ≡ written plan voc rs ++ more → (take 8 bytes ≡ MAGIC) × (get_or bytes 8 0 ≡ 1)
begins plan voc rs more bytes is =
    let all = is ∙ written_split plan voc rs more in (ap (λ (l : List ℕ). take 8 l) all, ap (λ (l : List ℕ). get_or l 8 0) all)

-- the first gate is open
record Opens (bytes : List ℕ) : Type 0 where
  long : 9 < length bytes
  magic : take 8 bytes ≡ MAGIC
  first : get_or bytes 8 0 ≡ 1

opens_session : (bytes : List ℕ) (p : Plan) (v : List ℕ) (es : List Event) → ReadsAs bytes (Session p v es) → Opens bytes
opens_session bytes p v es r = let b = begins p v r.1.records (r.1.holds.rest.gate ∷ r.1.holds.rest.behind) bytes r.1.holds.rest.is in record { long = r.0; magic = b.0; first = b.1 }

opens_many : (bytes : List ℕ) → ReadsAs bytes TooManyRecords → Opens bytes
opens_many bytes r = let b = begins r.1.plan r.1.voc r.1.records (r.1.rest.gate ∷ r.1.rest.behind) bytes r.1.rest.is in record { long = r.0; magic = b.0; first = b.1 }

opens_damaged : (bytes : List ℕ) (at : ℕ) → ReadsAs bytes (Damaged at) → Opens bytes
opens_damaged bytes at r = go r.1.front r.1.is
  where
    go : (f : Front) → bytes ≡ front_bytes f ++ 1 ∷ r.1.behind → Opens bytes
    go Bare is = record { long = r.0; magic = ap (λ (l : List ℕ). take 8 l) is; first = ap (λ (l : List ℕ). get_or l 8 0) is }
    go (Records p v rs) is = let b = begins p v rs (1 ∷ r.1.behind) bytes is in record { long = r.0; magic = b.0; first = b.1 }

none_shut : (bytes : List ℕ) → ReadsAs bytes NoSession → Opens bytes → ⊥
none_shut bytes (inl short) o = let long = o.long in omega arith
none_shut bytes (inr c) o = c.closed (sym (ap (λ (l : List ℕ). get_or l 8 0) c.is) ∙ o.first)

none_foreign : (bytes : List ℕ) → ReadsAs bytes NoSession → ReadsAs bytes NotAJournal → ⊥
none_foreign bytes (inl short) f = let long = f.0 in omega arith
none_foreign bytes (inr c) f = f.1 (ap (λ (l : List ℕ). take 8 l) c.is)

session_many : (bytes : List ℕ) (p : Plan) (v : List ℕ) (rs : List Record) → HoldsRecords bytes p v rs → HasTooManyRecords bytes → ⊥
session_many bytes p v rs s m =
    let fewer = many_apart p v rs m.plan m.voc m.records s.rest.gate s.rest.behind m.rest.gate m.rest.behind s.session m.session s.in_order m.in_order (closed_stuck (is_raised_after false rs) s.rest.gate s.rest.behind s.rest.closed) (sym s.rest.is ∙ m.rest.is) in
    let few = s.few in
    let many = m.many in
    omega arith

session_damaged : (bytes : List ℕ) (p : Plan) (v : List ℕ) (rs : List Record) (at : ℕ) → HoldsRecords bytes p v rs → IsDamagedAt at bytes → ⊥
session_damaged bytes p v rs at s d = go d.front d.whole d.is d.no_record
  where
    go : (f : Front) → IsFront f → bytes ≡ front_bytes f ++ 1 ∷ d.behind → (HasNextRecord f bytes → ⊥) → ⊥
    go Bare whole is none = none (has_next p v rs s.rest.gate s.rest.behind bytes s.session s.rest.is)
    go (Records q w ss) whole is none =
        let a = written_apart p v rs q w ss s.rest.gate s.rest.behind 1 d.behind s.session whole.0 s.in_order whole.1 (closed_stuck (is_raised_after false rs) s.rest.gate s.rest.behind s.rest.closed) (stuck_here q w ss d.behind bytes is none) (sym s.rest.is ∙ is) in
        s.rest.closed (ap (λ (l : List ℕ). get_or l 0 0) a.3)

many_damaged : (bytes : List ℕ) (at : ℕ) → HasTooManyRecords bytes → IsDamagedAt at bytes → ⊥
many_damaged bytes at m d = go d.front d.whole d.is d.no_record
  where
    go : (f : Front) → IsFront f → bytes ≡ front_bytes f ++ 1 ∷ d.behind → (HasNextRecord f bytes → ⊥) → ⊥
    go Bare whole is none = none (has_next m.plan m.voc m.records m.rest.gate m.rest.behind bytes m.session m.rest.is)
    go (Records q w ss) whole is none =
        let fewer = many_apart q w ss m.plan m.voc m.records 1 d.behind m.rest.gate m.rest.behind whole.0 m.session whole.1 m.in_order (stuck_here q w ss d.behind bytes is none) (sym is ∙ m.rest.is) in
        let few = whole.2 in
        let many = m.many in
        omega arith

damaged_once : (bytes : List ℕ) (at by : ℕ) → IsDamagedAt at bytes → IsDamagedAt by bytes → at ≡ by
damaged_once bytes at by d e = go d.front e.front d.whole e.whole d.is e.is d.no_record e.no_record d.place e.place
  where
    go : (f g : Front) → IsFront f → IsFront g → bytes ≡ front_bytes f ++ 1 ∷ d.behind → bytes ≡ front_bytes g ++ 1 ∷ e.behind → (HasNextRecord f bytes → ⊥) → (HasNextRecord g bytes → ⊥)
        → at ≡ length (front_bytes f) → by ≡ length (front_bytes g) → at ≡ by
    go Bare Bare whole all is was none nothing here there = here ∙ sym there
    go Bare (Records q w ss) whole all is was none nothing here there = absurd (none (has_next q w ss 1 e.behind bytes all.0 was))
    go (Records p v rs) Bare whole all is was none nothing here there = absurd (nothing (has_next p v rs 1 d.behind bytes whole.0 is))
    go (Records p v rs) (Records q w ss) whole all is was none nothing here there =
        let a = written_apart p v rs q w ss 1 d.behind 1 e.behind whole.0 all.0 whole.1 all.1 (stuck_here p v rs d.behind bytes is none) (stuck_here q w ss e.behind bytes was nothing) (sym is ∙ was) in
        here ∙ (λ i. length (written (a.0 i) (a.1 i) (a.2 i))) ∙ sym there

pub reads_once : (bytes : List ℕ) (r s : Reading) → ReadsAs bytes r → ReadsAs bytes s → r ≡ s
reads_once bytes (Session p v es) (Session q w fs) a b = let o = spells_once bytes p v es q w fs a.1 b.1 in λ i. Session (o.0 i) (o.1 i) (o.2 i)
reads_once bytes (Session p v es) NoSession a b = absurd (none_shut bytes b (opens_session bytes p v es a))
reads_once bytes (Session p v es) NotAJournal a b = absurd (b.1 (opens_session bytes p v es a).magic)
reads_once bytes (Session p v es) TooManyRecords a b = absurd (session_many bytes p v a.1.records a.1.holds b.1)
reads_once bytes (Session p v es) (Damaged at) a b = absurd (session_damaged bytes p v a.1.records at a.1.holds b.1)
reads_once bytes NoSession (Session p v es) a b = absurd (none_shut bytes a (opens_session bytes p v es b))
reads_once bytes NoSession NoSession a b = refl
reads_once bytes NoSession NotAJournal a b = absurd (none_foreign bytes a b)
reads_once bytes NoSession TooManyRecords a b = absurd (none_shut bytes a (opens_many bytes b))
reads_once bytes NoSession (Damaged at) a b = absurd (none_shut bytes a (opens_damaged bytes at b))
reads_once bytes NotAJournal (Session p v es) a b = absurd (a.1 (opens_session bytes p v es b).magic)
reads_once bytes NotAJournal NoSession a b = absurd (none_foreign bytes b a)
reads_once bytes NotAJournal NotAJournal a b = refl
reads_once bytes NotAJournal TooManyRecords a b = absurd (a.1 (opens_many bytes b).magic)
reads_once bytes NotAJournal (Damaged at) a b = absurd (a.1 (opens_damaged bytes at b).magic)
reads_once bytes TooManyRecords (Session p v es) a b = absurd (session_many bytes p v b.1.records b.1.holds a.1)
reads_once bytes TooManyRecords NoSession a b = absurd (none_shut bytes b (opens_many bytes a))
reads_once bytes TooManyRecords NotAJournal a b = absurd (b.1 (opens_many bytes a).magic)
reads_once bytes TooManyRecords TooManyRecords a b = refl
reads_once bytes TooManyRecords (Damaged at) a b = absurd (many_damaged bytes at a.1 b.1)
reads_once bytes (Damaged at) (Session p v es) a b = absurd (session_damaged bytes p v b.1.records at b.1.holds a.1)
reads_once bytes (Damaged at) NoSession a b = absurd (none_shut bytes b (opens_damaged bytes at a))
reads_once bytes (Damaged at) NotAJournal a b = absurd (b.1 (opens_damaged bytes at a).magic)
reads_once bytes (Damaged at) TooManyRecords a b = absurd (many_damaged bytes at b.1 a.1)
reads_once bytes (Damaged at) (Damaged by) a b = ap (λ (n : ℕ). Damaged n) (damaged_once bytes at by a.1 b.1)
