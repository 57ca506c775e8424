-- No bytes are read in two ways.
use Rattle.std.proofs.Common.{◌≡◌, ◌≢◌, ℕ, suc, ◌+◌, ◌*◌, ◌^◌, ◌<◌, ◌≤◌, List, [], ◌∷◌, ◌++◌}
use Rattle.std.proofs.Common.{length, get_or, take, drop, Option, Some, None, Bool, true, false}
use Rattle.std.proofs.Common.{flat_map, refl, sym, ◌∙◌, ap, subst, arith, append_assoc, take_at}
use Rattle.std.proofs.Common.{drop_at}
use Rattle.std.specs.Int.{w32, to_be_bytes, from_be_bytes}
use Rattle.std.proofs.lemmas.Nat.{from_be_bytes-to_be_bytes_4}
use Rattle.assign.specs.declared.events.Plan.{Plan}
use Rattle.assign.specs.declared.events.Plan.TheVariants.{Scopes, Quacq, Multi}
use Rattle.assign.specs.declared.events.Event.{Event}
use Rattle.assign.specs.declared.events.Event.TheVariants.{Answer, Back}
use Rattle.answer_journal.specs.declared.record.Record.{Record}
use Rattle.answer_journal.specs.declared.record.Record.TheVariants.{Added, Raising}
use Rattle.answer_journal.specs.Format.{valued_count}
use Rattle.answer_journal.specs.Storable.{IsStorableSession}
use Rattle.answer_journal.specs.Format.{MAGIC, tail_bytes, plan_byte, session_tail, pairs_from}
use Rattle.answer_journal.specs.Format.{said_byte, kind_byte, record_payload, record_tail}
use Rattle.answer_journal.specs.Format.{record_bytes, written}
use Rattle.answer_journal.specs.Records.{events_among, is_raised_by, is_raised_after, MayFollow}
use Rattle.answer_journal.specs.Records.{AreInOrder}
use Rattle.answer_journal.specs.Journal.{HoldsRecords, Spells}

-- ---- one record

pub tail_once : (k : ℕ) (p x : List ℕ) (l : ℕ) (q y : List ℕ) → length p < 2 ^ 32 →
    length q < 2 ^ 32 → tail_bytes k p ++ x ≡ tail_bytes l q ++ y → (k ≡ l) × (p ≡ q) × (x ≡ y)
tail_once k p x l q y short small e =
    let sizes : to_be_bytes w32 (length p) ≡ to_be_bytes w32 (length q) =
    ap (λ (b : List ℕ). take 4 (drop 1 b)) e in
    let size : length p ≡ length q = sym (from_be_bytes-to_be_bytes_4 (length p) short)
    ∙ ap (from_be_bytes w32) sizes ∙ from_be_bytes-to_be_bytes_4 (length q) small in
    let rest : p ++ x ≡ q ++ y = ap (λ (b : List ℕ). drop 5 b) e in (
      ap (λ (b : List ℕ). get_or b 0 0) e,
      sym (take_at p x (length p) refl) ∙ ap (λ (b : List ℕ). take (length p) b) rest
          ∙ take_at q y (length p) (sym size),
      sym (drop_at p x (length p) refl) ∙ ap (λ (b : List ℕ). drop (length p) b) rest
          ∙ drop_at q y (length p) (sym size),
    )

-- ---- pairs

pub pairs_size : (v : ℕ) (q : List (Option ℕ)) → length (pairs_from v q) ≡ 2 * valued_count q
pairs_size v [] = refl
pairs_size v (None ∷ q) = pairs_size (suc v) q
pairs_size v (Some x ∷ q) = omega (arith, pairs_size (suc v) q)

pub given_few : (q : List (Option ℕ)) → valued_count q ≤ length q
given_few [] = omega arith
given_few (None ∷ q) = omega (arith, given_few q)
given_few (Some x ∷ q) = omega (arith, given_few q)

pub pairs_above : (u v : ℕ) (q : List (Option ℕ)) (rest : List ℕ) → u < v →
    pairs_from v q ≡ u ∷ rest → ⊥
pairs_above u v [] rest lt e = cc
pairs_above u v (None ∷ q) rest lt e = pairs_above u (suc v) q rest (omega arith) e
pairs_above u v (Some x ∷ q) rest lt e = let same : v ≡ u = cc in omega arith

pairs_once : (v : ℕ) (q r : List (Option ℕ)) → length q ≡ length r →
    pairs_from v q ≡ pairs_from v r → q ≡ r
pairs_once v [] [] size e = refl
pairs_once v [] (o ∷ r) size e = absurd (omega arith)
pairs_once v (o ∷ q) [] size e = absurd (omega arith)
pairs_once v (None ∷ q) (None ∷ r) size e =
    ap (λ (s : List (Option ℕ)). None ∷ s) (pairs_once (suc v) q r (omega arith) e)
pairs_once v (None ∷ q) (Some y ∷ r) size e =
    absurd (pairs_above v (suc v) q (y ∷ pairs_from (suc v) r) (omega arith) e)
pairs_once v (Some x ∷ q) (None ∷ r) size e =
    absurd (pairs_above v (suc v) r (x ∷ pairs_from (suc v) q) (omega arith) (sym e))
pairs_once v (Some x ∷ q) (Some y ∷ r) size e =
    let value : x ≡ y = cc in
    let rest : pairs_from (suc v) q ≡ pairs_from (suc v) r = cc in
    λ i. Some (value i) ∷ pairs_once (suc v) q r (omega arith) rest i

-- ---- records and sessions

said_once : (s t : Bool) → said_byte s ≡ said_byte t → s ≡ t
said_once true true e = refl
said_once true false e = absurd (omega arith)
said_once false true e = absurd (omega arith)
said_once false false e = refl

pub payload_small : (raised : Bool) (r : Record) → MayFollow raised r →
    length (record_payload r) < 2 ^ 32
payload_small raised (Added (Answer q said)) may =
    let few : 2 + length (pairs_from 0 q) ≤ 258 =
    omega (arith, pairs_size 0 q, given_few q, may.0.size) in omega arith
payload_small raised (Added Back) may = omega arith
payload_small raised Raising may = omega arith

-- of two records that may stand here, each with its kind and its payload
payload_once : (raised : Bool) (r s : Record) → MayFollow raised r → MayFollow raised s →
    kind_byte r ≡ kind_byte s → record_payload r ≡ record_payload s → r ≡ s
payload_once raised (Added (Answer q said)) (Added (Answer p told)) may might kind payload =
    let same : said ≡ told = said_once said told (ap (λ (b : List ℕ). get_or b 0 0) payload) in
    let question : q ≡ p =
    pairs_once 0 q p (may.0.size ∙ sym might.0.size) (ap (λ (b : List ℕ). drop 2 b) payload) in
    λ i. Added (Answer (question i) (same i))
payload_once raised (Added (Answer q said)) (Added Back) may might kind payload =
    absurd (omega (arith, kind))
payload_once raised (Added (Answer q said)) Raising may might kind payload =
    absurd (omega (arith, kind))
payload_once raised (Added Back) (Added (Answer p told)) may might kind payload =
    absurd (omega (arith, kind))
payload_once raised (Added Back) (Added Back) may might kind payload = refl
payload_once raised (Added Back) Raising may might kind payload = absurd (omega (arith, kind))
payload_once raised Raising (Added (Answer p told)) may might kind payload =
    absurd (omega (arith, kind))
payload_once raised Raising (Added Back) may might kind payload = absurd (omega (arith, kind))
payload_once raised Raising Raising may might kind payload = refl

pub record_once : (raised : Bool) (r : Record) (x : List ℕ) (s : Record) (y : List ℕ) →
    MayFollow raised r → MayFollow raised s → record_tail r ++ x ≡ record_tail s ++ y →
    (r ≡ s) × (x ≡ y)
unfolding record_tail
record_once raised r x s y may might same =
    let once = tail_once (kind_byte r) (record_payload r) x (kind_byte s) (record_payload s) y
    (payload_small raised r may) (payload_small raised s might) same in
    (payload_once raised r s may might once.0 once.1, once.2)

plan_once : (p q : Plan) → plan_byte p ≡ plan_byte q → p ≡ q
plan_once Scopes Scopes e = refl
plan_once Scopes Quacq e = absurd (omega arith)
plan_once Scopes Multi e = absurd (omega arith)
plan_once Quacq Scopes e = absurd (omega arith)
plan_once Quacq Quacq e = refl
plan_once Quacq Multi e = absurd (omega arith)
plan_once Multi Scopes e = absurd (omega arith)
plan_once Multi Quacq e = absurd (omega arith)
plan_once Multi Multi e = refl

pub session_once : (p : Plan) (v x : List ℕ) (q : Plan) (w y : List ℕ) → IsStorableSession p v →
    IsStorableSession q w → session_tail p v ++ x ≡ session_tail q w ++ y →
    (p ≡ q) × (v ≡ w) × (x ≡ y)
unfolding session_tail
session_once p v x q w y short small same =
    let once =
    tail_once 0x53 (plan_byte p ∷ v) x 0x53 (plan_byte q ∷ w) y (omega arith)
    (omega arith) same in (
      plan_once p q (ap (λ (b : List ℕ). get_or b 0 0) once.1),
      ap (λ (b : List ℕ). drop 1 b) once.1,
      once.2,
    )

-- ---- many records

-- no whole record that may stand here stands here with a gate behind it
abbrev pub Stuck : Bool → List ℕ → Type 0
Stuck raised rest = (r : Record) (gate : ℕ) (behind : List ℕ) → MayFollow raised r →
    rest ≡ record_bytes r ++ gate ∷ behind → ⊥

pub closed_stuck : (raised : Bool) (gate : ℕ) (behind : List ℕ) → gate ≢ 1 →
    Stuck raised (gate ∷ behind)
closed_stuck raised gate behind shut r g b may is = shut (ap (λ (l : List ℕ). get_or l 0 0) is)

pub records_more : (rs : List Record) (gate : ℕ) (behind : List ℕ) →
    (g : ℕ) × (b : List ℕ) × (flat_map record_bytes rs ++ gate ∷ behind ≡ g ∷ b)
records_more [] gate behind = (gate, behind, refl)
records_more (r ∷ rs) gate behind =
    (1, record_tail r ++ flat_map record_bytes rs ++ gate ∷ behind, refl)

-- the first of each, where the bytes of both are the same
pub first_once : (raised : Bool) (r : Record) (rs : List Record) (g : ℕ) (b : List ℕ) (s : Record)
    (ss : List Record) (h : ℕ) (d : List ℕ) → MayFollow raised r → MayFollow raised s
    → flat_map record_bytes (r ∷ rs) ++ g ∷ b ≡ flat_map record_bytes (s ∷ ss) ++ h ∷ d →
    (r ≡ s) × (flat_map record_bytes rs ++ g ∷ b ≡ flat_map record_bytes ss ++ h ∷ d)
first_once raised r rs g b s ss h d may might e =
    record_once raised r (flat_map record_bytes rs ++ g ∷ b) s
    (flat_map record_bytes ss ++ h ∷ d) may might
    (ap (λ (l : List ℕ). drop 1 l) (sym (append_assoc (record_bytes r) (flat_map record_bytes rs)
    (g ∷ b)) ∙ e ∙ append_assoc (record_bytes s) (flat_map record_bytes ss) (h ∷ d)))

-- where the bytes end no record follows that may
pub none_follows : (raised : Bool) (g : ℕ) (b : List ℕ) (s : Record) (ss : List Record)
    (h : ℕ) (d : List ℕ) → MayFollow raised s → Stuck raised (g ∷ b) →
    g ∷ b ≡ flat_map record_bytes (s ∷ ss) ++ h ∷ d → ⊥
none_follows raised g b s ss h d may stuck e =
    let more = records_more ss h d in
    stuck s more.0 more.1 may (e ∙ append_assoc (record_bytes s) (flat_map record_bytes ss) (h ∷ d)
    ∙ ap (λ (l : List ℕ). record_bytes s ++ l) more.2)

pub records_apart : (raised : Bool) (rs ss : List Record) (g : ℕ) (b : List ℕ)
    (h : ℕ) (d : List ℕ) → AreInOrder raised rs → AreInOrder raised ss →
    Stuck (is_raised_after raised rs) (g ∷ b) → Stuck (is_raised_after raised ss) (h ∷ d)
    → flat_map record_bytes rs ++ g ∷ b ≡ flat_map record_bytes ss ++ h ∷ d →
    (rs ≡ ss) × (g ∷ b ≡ h ∷ d)
records_apart raised [] [] g b h d fits good stuck held e = (refl, e)
records_apart raised [] (s ∷ ss) g b h d fits good stuck held e =
    absurd (none_follows raised g b s ss h d good.0 stuck e)
records_apart raised (r ∷ rs) [] g b h d fits good stuck held e =
    absurd (none_follows raised h d r rs g b fits.0 held (sym e))
records_apart raised (r ∷ rs) (s ∷ ss) g b h d fits good stuck held e =
    let first = first_once raised r rs g b s ss h d fits.0 good.0 e in
    let rest = records_apart (is_raised_by raised r) rs ss g b h d fits.1
    (subst (λ (t : Record). AreInOrder (is_raised_by raised t) ss) (sym first.0) good.1) stuck
    (subst (λ (t : Record).
    Stuck (is_raised_after (is_raised_by raised t) ss) (h ∷ d)) (sym first.0) held) first.1 in
    ((λ i. first.0 i ∷ rest.0 i), rest.1)

-- a whole session, and then what is no record
pub written_split : (plan : Plan) (voc : List ℕ) (rs : List Record) (rest : List ℕ) → written plan
    voc rs ++ rest ≡ MAGIC ++ 1 ∷ (session_tail plan voc ++ (flat_map record_bytes rs ++ rest))
written_split plan voc rs rest =
    append_assoc (MAGIC ++ 1 ∷ session_tail plan voc) (flat_map record_bytes rs) rest
    ∙ append_assoc MAGIC (1 ∷ session_tail plan voc) (flat_map record_bytes rs ++ rest)

-- two sessions that the same bytes begin with
pub sessions_once : (p : Plan) (v : List ℕ) (rs : List Record) (x : List ℕ) (q : Plan)
    (w : List ℕ) (ss : List Record) (y : List ℕ) → IsStorableSession p v → IsStorableSession q w →
    written p v rs ++ x ≡ written q w ss ++ y
    → (p ≡ q) × (v ≡ w) × (flat_map record_bytes rs ++ x ≡ flat_map record_bytes ss ++ y)
sessions_once p v rs x q w ss y short small e =
    session_once p v (flat_map record_bytes rs ++ x) q w (flat_map record_bytes ss ++ y) short small
    (ap (λ (l : List ℕ). drop 9 l) (sym (written_split p v rs x) ∙ e ∙ written_split q w ss y))

pub written_apart : (p : Plan) (v : List ℕ) (rs : List Record) (q : Plan) (w : List ℕ)
    (ss : List Record) (g : ℕ) (b : List ℕ) (h : ℕ) (d : List ℕ) → IsStorableSession p v →
    IsStorableSession q w → AreInOrder false rs → AreInOrder false ss
    → Stuck (is_raised_after false rs) (g ∷ b) → Stuck (is_raised_after false ss) (h ∷ d) →
    written p v rs ++ g ∷ b ≡ written q w ss ++ h ∷ d →
    (p ≡ q) × (v ≡ w) × (rs ≡ ss) × (g ∷ b ≡ h ∷ d)
written_apart p v rs q w ss g b h d short small fits good stuck held e =
    let s = sessions_once p v rs (g ∷ b) q w ss (h ∷ d) short small e in
    let r = records_apart false rs ss g b h d fits good stuck held s.2 in
    (s.0, s.1, r.0, r.1)

-- no bytes are those of two sessions and their records
pub records_once : (bytes : List ℕ) (p : Plan) (v : List ℕ) (rs : List Record) (q : Plan)
    (w : List ℕ) (ss : List Record) → HoldsRecords bytes p v rs → HoldsRecords bytes q w ss →
    (p ≡ q) × (v ≡ w) × (rs ≡ ss)
records_once bytes p v rs q w ss one two =
    let a = written_apart p v rs q w ss one.rest.gate one.rest.behind two.rest.gate two.rest.behind
    one.session two.session one.in_order two.in_order
    (closed_stuck (is_raised_after false rs) one.rest.gate one.rest.behind one.rest.closed)
    (closed_stuck (is_raised_after false ss) two.rest.gate two.rest.behind two.rest.closed)
    (sym one.rest.is ∙ two.rest.is) in
    (a.0, a.1, a.2)

-- no bytes spell two sessions
pub spells_once : (bytes : List ℕ) (p : Plan) (v : List ℕ) (es : List Event) (q : Plan) (w : List ℕ)
    (fs : List Event) → Spells bytes p v es → Spells bytes q w fs → (p ≡ q) × (v ≡ w) × (es ≡ fs)
spells_once bytes p v es q w fs one two =
    let same = records_once bytes p v one.records q w two.records one.holds two.holds in
    (same.0, same.1, sym one.are ∙ ap events_among same.2 ∙ two.are)
