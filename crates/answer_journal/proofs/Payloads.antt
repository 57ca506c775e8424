-- What a payload spells, and what it doesn't.
use Rattle.answer_journal.proofs.Prelude.{◌≡◌, ℕ, ◌-◌, ◌^◌, ◌<◌, ◌≤◌, Bool, List, [], ◌∷◌, ◌++◌, length, get_or, take, drop, Option, Some, None, sym, ◌∙◌, ap, subst, arith, take_all, length-drop, Plan, Record, valued_count, IsStorableSession, IsStorable, tail_bytes, plan_byte, session_tail, pairs_from, said_byte, answer_payload, kind_byte, record_payload, record_tail, MayFollow, options_at, options_again, options_sound, tail_once, payload_small}

abbrev pub pairs_in : List ℕ → List ℕ
pairs_in p = take (length p - 2) (drop 2 p)

pairs_of : (p : List ℕ) (q : List (Option ℕ)) (said : Bool) → p ≡ answer_payload q said → pairs_in p ≡ pairs_from 0 q
pairs_of p q said is =
    let long : length (drop 2 p) ≤ length p - 2 = omega (arith, length-drop 2 p) in
    take_all (length p - 2) (drop 2 p) long ∙ ap (λ (l : List ℕ). drop 2 l) is

read_back : (p : List ℕ) (q : List (Option ℕ)) (said : Bool) → IsStorable q → p ≡ answer_payload q said → options_at 128 0 (pairs_in p) ≡ Some q
read_back p q said fits is =
    ap (λ (l : List ℕ). options_at 128 0 l) (pairs_of p q said is) ∙ subst (λ (n : ℕ). options_at n 0 (pairs_from 0 q) ≡ Some q) fits.size (options_again q 0 fits.values_fit)

-- no question is read: so none is spelled
pub answer_none : (p : List ℕ) → None ≡ options_at 128 0 (pairs_in p) → (q : List (Option ℕ)) (said : Bool) → IsStorable q → p ≡ answer_payload q said → ⊥
answer_none p none q said fits is = let back = read_back p q said fits is in cc

-- another count
pub answer_other : (p : List ℕ) (r : List (Option ℕ)) (n : ℕ) → Some r ≡ options_at 128 0 (pairs_in p) → n ≡ valued_count r → (n ≡ get_or p 1 0 → ⊥) → (q : List (Option ℕ)) (said : Bool) → IsStorable q → p ≡ answer_payload q said → ⊥
answer_other p r n some counts other q said fits is =
    let back = read_back p q said fits is in
    let same : r ≡ q = cc in
    other (counts ∙ ap valued_count same ∙ sym (ap (λ (l : List ℕ). get_or l 1 0) is))

two_first : (p : List ℕ) → 2 ≤ length p → p ≡ get_or p 0 0 ∷ get_or p 1 0 ∷ pairs_in p
two_first [] long = absurd (omega arith)
two_first (a ∷ []) long = absurd (omega arith)
two_first (a ∷ b ∷ p) long = ap (λ (l : List ℕ). a ∷ b ∷ l) (sym (take_all (length (a ∷ b ∷ p) - 2) p (omega arith)))

pub answer_found : (p : List ℕ) (q : List (Option ℕ)) (said : Bool) (n : ℕ) → 2 ≤ length p → get_or p 0 0 ≡ said_byte said → (get_or p 1 0 ≡ 0 → ⊥) → Some q ≡ options_at 128 0 (pairs_in p) → n ≡ valued_count q → n ≡ get_or p 1 0 → IsStorable q × (p ≡ answer_payload q said)
answer_found p q said n long is some read counts same =
    let r = options_sound 128 0 (pairs_in p) q (sym read) in (
      record { size = r.size; some = omega (arith, counts, same, some); values_fit = r.fit },
      two_first p long ∙ (λ i. is i ∷ (sym same ∙ counts) i ∷ r.are i),
    )

-- ---- records

pub no_parts : (raised : Bool) (bytes : List ℕ) → ((kind : ℕ) (p : List ℕ) (gate : ℕ) (behind : List ℕ) → length p < 2 ^ 32 → bytes ≡ tail_bytes kind p ++ gate ∷ behind → ⊥) → (r : Record) (gate : ℕ) (behind : List ℕ) → MayFollow raised r → bytes ≡ record_tail r ++ gate ∷ behind → ⊥
unfolding record_tail
no_parts raised bytes none r gate behind may is = none (kind_byte r) (record_payload r) gate behind (payload_small raised r may) is

pub no_record : (raised : Bool) (bytes : List ℕ) (kind : ℕ) (p rest : List ℕ) → length p < 2 ^ 32 → bytes ≡ tail_bytes kind p ++ rest → ((r : Record) → MayFollow raised r → kind ≡ kind_byte r → p ≡ record_payload r → ⊥)
    → (r : Record) (gate : ℕ) (behind : List ℕ) → MayFollow raised r → bytes ≡ record_tail r ++ gate ∷ behind → ⊥
unfolding record_tail
no_record raised bytes kind p rest short found none r gate behind may is =
    let once = tail_once kind p rest (kind_byte r) (record_payload r) (gate ∷ behind) short (payload_small raised r may) (sym found ∙ is) in
    none r may once.0 once.1

pub record_found : (bytes : List ℕ) (kind : ℕ) (p rest : List ℕ) (r : Record) → bytes ≡ tail_bytes kind p ++ rest → kind ≡ kind_byte r → p ≡ record_payload r → bytes ≡ record_tail r ++ rest
unfolding record_tail
record_found bytes kind p rest r found kind_is payload_is = found ∙ (λ i. tail_bytes (kind_is i) (payload_is i) ++ rest)

-- ---- sessions

session_short : (plan : Plan) (voc : List ℕ) → IsStorableSession plan voc → length (plan_byte plan ∷ voc) < 2 ^ 32
session_short plan voc short = omega arith

pub session_no_payload : (bytes : List ℕ) → ((p : List ℕ) (gate : ℕ) (behind : List ℕ) → length p < 2 ^ 32 → bytes ≡ tail_bytes 0x53 p ++ gate ∷ behind → ⊥) → (plan : Plan) (voc : List ℕ) (gate : ℕ) (behind : List ℕ) → IsStorableSession plan voc → bytes ≡ session_tail plan voc ++ gate ∷ behind → ⊥
unfolding session_tail
session_no_payload bytes none plan voc gate behind short is = none (plan_byte plan ∷ voc) gate behind (session_short plan voc short) is

pub session_kind : (bytes : List ℕ) (kind : ℕ) (p r : List ℕ) → kind ≡ 0x53 → bytes ≡ tail_bytes kind p ++ r → bytes ≡ tail_bytes 0x53 p ++ r
session_kind bytes kind p r is found = found ∙ ap (λ (k : ℕ). tail_bytes k p ++ r) is

pub session_other : (bytes : List ℕ) (kind : ℕ) (p r : List ℕ) → length p < 2 ^ 32 → (kind ≡ 0x53 → ⊥) → bytes ≡ tail_bytes kind p ++ r → (plan : Plan) (voc : List ℕ) (gate : ℕ) (behind : List ℕ) → IsStorableSession plan voc → bytes ≡ session_tail plan voc ++ gate ∷ behind → ⊥
unfolding session_tail
session_other bytes kind p r short other found plan voc gate behind small is =
    other (tail_once kind p r 0x53 (plan_byte plan ∷ voc) (gate ∷ behind) short (session_short plan voc small) (sym found ∙ is)).0

pub session_payload : (bytes p r : List ℕ) → length p < 2 ^ 32 → bytes ≡ tail_bytes 0x53 p ++ r → (plan : Plan) (voc : List ℕ) (gate : ℕ) (behind : List ℕ) → IsStorableSession plan voc → bytes ≡ session_tail plan voc ++ gate ∷ behind → p ≡ plan_byte plan ∷ voc
unfolding session_tail
session_payload bytes p r short found plan voc gate behind small is =
    let once = tail_once 0x53 p r 0x53 (plan_byte plan ∷ voc) (gate ∷ behind) short (session_short plan voc small) (sym found ∙ is) in
    once.1

abbrev pub rest_in : List ℕ → List ℕ
rest_in p = take (length p - 1) (drop 1 p)

pub rest_long : (p : List ℕ) (b : ℕ) (voc : List ℕ) → p ≡ b ∷ voc → length (rest_in p) ≡ length voc
rest_long p b voc is = ap length (take_all (length p - 1) (drop 1 p) (omega (arith, length-drop 1 p))) ∙ ap (λ (l : List ℕ). length (drop 1 l)) is

one_first : (p : List ℕ) → 1 ≤ length p → p ≡ get_or p 0 0 ∷ rest_in p
one_first [] long = absurd (omega arith)
one_first (a ∷ p) long = ap (λ (l : List ℕ). a ∷ l) (sym (take_all (length (a ∷ p) - 1) p (omega arith)))

pub session_found : (bytes p r : List ℕ) (plan : Plan) → bytes ≡ tail_bytes 0x53 p ++ r → 1 ≤ length p → get_or p 0 0 ≡ plan_byte plan → bytes ≡ session_tail plan (rest_in p) ++ r
unfolding session_tail
session_found bytes p r plan found long is = found ∙ ap (λ (l : List ℕ). tail_bytes 0x53 l ++ r) (one_first p long ∙ ap (λ (b : ℕ). b ∷ rest_in p) is)
