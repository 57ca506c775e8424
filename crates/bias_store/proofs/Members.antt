-- The candidates of masks: filtered, counted, on one scope, all of a language.
use Rattle.bias_store.proofs.Prelude.{◌≡◌, ℕ, zero, suc, ◌+◌, ◌<◌, ◌≤◌, Bool, true, false, cond, ◌||◌, List, [], ◌∷◌, ◌++◌, length, map, refl, sym, ◌∙◌, ap, subst, arith, length-append, ◌==◌, slice_index_or, slice_set, replicate, All, filter, list_any, flat_map, range_with_len, eq-eqb, ne_eqb, length-map, append-nil, get_or_read, filter-append, list_any-append, Candidate, any-map, nothing_passes, ones_of, candidates_at, members_from}
use Rattle.shared_lemmas.proofs.Lists.{all_left, all_right, all_of_map, filter-map}
use Rattle.std.proofs.lemmas.Simd.{map-map}

-- the candidate with a relation on a scope
abbrev pub candidate_at : ℕ → ℕ → Candidate
candidate_at s r = record { scope = s; rel = r }

-- ---- each mask is replaced by one whose relations pass

pub members_filter : (ok : Candidate → Bool) (s : ℕ) (old now : List ℕ) → length now ≡ length old →
    ((k : ℕ) → k < length old → ones_of (slice_index_or now k 0) ≡ filter (λ r. ok (candidate_at (s + k) r)) (ones_of (slice_index_or old k 0))) →
    members_from s now ≡ filter ok (members_from s old)
members_filter ok s [] [] long each = refl
members_filter ok s [] (m ∷ now) long each = absurd (omega arith)
members_filter ok s (m ∷ old) [] long each = absurd (omega arith)
members_filter ok s (a ∷ old) (b ∷ now) long each =
    let here : ones_of b ≡ filter (λ r. ok (candidate_at s r)) (ones_of a) = each 0 (omega arith) ∙ ap (λ t. filter (λ r. ok (candidate_at t r)) (ones_of a)) (let e : s + 0 ≡ s = omega arith in e) in
    let rest : members_from (s + 1) now ≡ filter ok (members_from (s + 1) old) = members_filter ok (s + 1) old now (omega arith)
    (λ k low. each (suc k) (omega arith) ∙ ap (λ t. filter (λ r. ok (candidate_at t r)) (ones_of (slice_index_or old k 0))) (let e : s + suc k ≡ s + 1 + k = omega arith in e)) in
    (λ i. candidates_at s (here i) ++ rest i) ∙ ap (λ cs. cs ++ filter ok (members_from (s + 1) old)) (sym (filter-map ok (candidate_at s) (ones_of a)))
    ∙ sym (filter-append ok (candidates_at s (ones_of a)) (members_from (s + 1) old))

-- the candidates that pass, where the relations of each scope are those that pass
pub filter_of_masks : (ok : Candidate → Bool) (old now : List ℕ) → length now ≡ length old →
    ((k : ℕ) → k < length old → ones_of (slice_index_or now k 0) ≡ filter (λ r. ok (candidate_at k r)) (ones_of (slice_index_or old k 0))) →
    members_from 0 now ≡ filter ok (members_from 0 old)
filter_of_masks ok old now long each = members_filter ok 0 old now long
    (λ k low. each k low ∙ ap (λ t. filter (λ r. ok (candidate_at t r)) (ones_of (slice_index_or old k 0))) (let e : k ≡ 0 + k = omega arith in e))

-- ---- one mask is replaced

pub length-members_set : (s : ℕ) (masks : List ℕ) (i mask : ℕ) → i < length masks →
    length (members_from s (slice_set masks i mask)) + length (ones_of (slice_index_or masks i 0)) ≡ length (members_from s masks) + length (ones_of mask)
length-members_set s [] i mask low = absurd (omega arith)
length-members_set s (m ∷ masks) zero mask low = omega (
  arith,
  length-append (candidates_at s (ones_of mask)) (members_from (s + 1) masks),
  length-append (candidates_at s (ones_of m)) (members_from (s + 1) masks),
  length-map (ones_of mask) (candidate_at s),
  length-map (ones_of m) (candidate_at s),
)
length-members_set s (m ∷ masks) (suc i) mask low = omega (
  arith,
  length-append (candidates_at s (ones_of m)) (members_from (s + 1) (slice_set masks i mask)),
  length-append (candidates_at s (ones_of m)) (members_from (s + 1) masks),
  length-members_set (s + 1) masks i mask (omega arith),
)

pub fewer_on_one : (s : ℕ) (masks : List ℕ) (i : ℕ) → i < length masks → length (ones_of (slice_index_or masks i 0)) ≤ length (members_from s masks)
fewer_on_one s [] i low = absurd (omega arith)
fewer_on_one s (m ∷ masks) zero low = omega (arith, length-append (candidates_at s (ones_of m)) (members_from (s + 1) masks), length-map (ones_of m) (candidate_at s))
fewer_on_one s (m ∷ masks) (suc i) low = omega (arith, length-append (candidates_at s (ones_of m)) (members_from (s + 1) masks), fewer_on_one (s + 1) masks i (omega arith))

-- ---- no mask has a one, or each mask those of a function

pub members_from-none : (s n mask : ℕ) → ones_of mask ≡ [] → members_from s (replicate n mask) ≡ []
members_from-none s zero mask none = refl
members_from-none s (suc n) mask none = λ i. candidates_at s (none i) ++ members_from-none (s + 1) n mask none i

pub members_from-all : (f : ℕ → List ℕ) (s : ℕ) (masks : List ℕ) → ((k : ℕ) → k < length masks → ones_of (slice_index_or masks k 0) ≡ f (s + k)) →
    members_from s masks ≡ flat_map (λ t. candidates_at t (f t)) (range_with_len s (length masks))
members_from-all f s [] each = refl
members_from-all f s (m ∷ masks) each =
    let here : ones_of m ≡ f s = each 0 (omega arith) ∙ ap f (let e : s + 0 ≡ s = omega arith in e) in
    let rest = members_from-all f (s + 1) masks (λ k low. each (suc k) (omega arith) ∙ ap f (let e : s + suc k ≡ s + 1 + k = omega arith in e)) in
    λ i. candidates_at s (here i) ++ rest i

-- ---- what holds of each, what is there

known_from : (P : Candidate → Type 0) (s : ℕ) (masks : List ℕ) (i t : ℕ) → t ≡ s + i → i < length masks → All P (members_from s masks) → All (λ r. P (candidate_at t r)) (ones_of (slice_index_or masks i 0))
known_from P s [] i t e low h = absurd (omega arith)
known_from P s (m ∷ masks) zero t e low h = subst (λ (u : ℕ). All (λ r. P (candidate_at u r)) (ones_of m)) (let f : s ≡ t = omega arith in f)
    (all_of_map P (candidate_at s) (ones_of m) (all_left P (candidates_at s (ones_of m)) (members_from (s + 1) masks) h))
known_from P s (m ∷ masks) (suc i) t e low h = known_from P (s + 1) masks i t (omega arith) (omega arith) (all_right P (candidates_at s (ones_of m)) (members_from (s + 1) masks) h)

-- what holds of each candidate holds of those on a scope
pub known_on : (P : Candidate → Type 0) (masks : List ℕ) (i : ℕ) → i < length masks → All P (members_from 0 masks) → All (λ r. P (candidate_at i r)) (ones_of (slice_index_or masks i 0))
known_on P masks i low h = known_from P 0 masks i i (omega arith) low h

none_from : (p : Candidate → Bool) (s : ℕ) (masks : List ℕ) → ((k : ℕ) → k < length masks → list_any (λ r. p (candidate_at (s + k) r)) (ones_of (slice_index_or masks k 0)) ≡ false) → list_any p (members_from s masks) ≡ false
none_from p s [] none = refl
none_from p s (m ∷ masks) none =
    list_any-append p (candidates_at s (ones_of m)) (members_from (s + 1) masks)
    ∙ (λ i. (any-map p (candidate_at s) (ones_of m) ∙ ap (λ t. list_any (λ r. p (candidate_at t r)) (ones_of m)) (let e : s ≡ s + 0 = omega arith in e) ∙ none 0 (omega arith)) i
    || none_from p (s + 1) masks (λ k low. ap (λ t. list_any (λ r. p (candidate_at t r)) (ones_of (slice_index_or masks k 0))) (let e : s + 1 + k ≡ s + suc k = omega arith in e) ∙ none (suc k) (omega arith)) i)

-- no candidate passes, where none does on any scope
pub none_passes : (p : Candidate → Bool) (masks : List ℕ) → ((k : ℕ) → k < length masks → list_any (λ r. p (candidate_at k r)) (ones_of (slice_index_or masks k 0)) ≡ false) → list_any p (members_from 0 masks) ≡ false
none_passes p masks none = none_from p 0 masks (λ k low. ap (λ t. list_any (λ r. p (candidate_at t r)) (ones_of (slice_index_or masks k 0))) (let e : 0 + k ≡ k = omega arith in e) ∙ none k low)

one_from : (p : Candidate → Bool) (s : ℕ) (masks : List ℕ) (i t : ℕ) → t ≡ s + i → i < length masks → list_any (λ r. p (candidate_at t r)) (ones_of (slice_index_or masks i 0)) ≡ true → list_any p (members_from s masks) ≡ true
one_from p s [] i t e low one = absurd (omega arith)
one_from p s (m ∷ masks) zero t e low one =
    list_any-append p (candidates_at s (ones_of m)) (members_from (s + 1) masks)
    ∙ ap (λ b. b || list_any p (members_from (s + 1) masks)) (any-map p (candidate_at s) (ones_of m) ∙ ap (λ u. list_any (λ r. p (candidate_at u r)) (ones_of m)) (let f : s ≡ t = omega arith in f) ∙ one)
one_from p s (m ∷ masks) (suc i) t e low one =
    list_any-append p (candidates_at s (ones_of m)) (members_from (s + 1) masks)
    ∙ ap (λ b. list_any p (candidates_at s (ones_of m)) || b) (one_from p (s + 1) masks i t (omega arith) (omega arith) one) ∙ or_true (list_any p (candidates_at s (ones_of m)))
  where
    or_true : (b : Bool) → (b || true) ≡ true
    or_true true = refl
    or_true false = refl

-- some candidate passes, where one does on some scope
pub one_passes : (p : Candidate → Bool) (masks : List ℕ) (i : ℕ) → i < length masks → list_any (λ r. p (candidate_at i r)) (ones_of (slice_index_or masks i 0)) ≡ true → list_any p (members_from 0 masks) ≡ true
one_passes p masks i low one = one_from p 0 masks i i (omega arith) low one

-- ---- the relations of one scope

pub all_pass : {X : Type 0} (p : X → Bool) (xs : List X) → ((x : X) → p x ≡ true) → filter p xs ≡ xs
all_pass p [] h = refl
all_pass p (x ∷ xs) h = rw (h x) (ap (λ ys. x ∷ ys) (all_pass p xs h))

map-same : (xs : List ℕ) → map (λ (r : ℕ). r) xs ≡ xs
map-same [] = refl
map-same (x ∷ xs) = ap (λ ys. x ∷ ys) (map-same xs)

on_this : (s t : ℕ) (relations : List ℕ) → s ≡ t → filter (λ c. c.scope == t) (candidates_at s relations) ≡ candidates_at s relations
on_this s t relations e = filter-map (λ c. c.scope == t) (candidate_at s) relations ∙ ap (candidates_at s) (all_pass (λ r. s == t) relations (λ r. eq-eqb s t e))

on_other : (s t : ℕ) (relations : List ℕ) → (s ≡ t → ⊥) → filter (λ c. c.scope == t) (candidates_at s relations) ≡ []
on_other s t relations e = filter-map (λ c. c.scope == t) (candidate_at s) relations ∙ ap (candidates_at s) (nothing_passes (λ r. s == t) relations (λ r. ne_eqb s t e))

nothing_on : (t s : ℕ) (masks : List ℕ) → t < s → filter (λ c. c.scope == t) (members_from s masks) ≡ []
nothing_on t s [] low = refl
nothing_on t s (m ∷ masks) low =
    filter-append (λ c. c.scope == t) (candidates_at s (ones_of m)) (members_from (s + 1) masks)
    ∙ (λ i. on_other s t (ones_of m) (λ e. omega arith) i ++ nothing_on t (s + 1) masks (omega arith) i)

on_scope_from : (s : ℕ) (masks : List ℕ) (i t : ℕ) → t ≡ s + i → i < length masks → filter (λ c. c.scope == t) (members_from s masks) ≡ candidates_at t (ones_of (slice_index_or masks i 0))
on_scope_from s [] i t e low = absurd (omega arith)
on_scope_from s (m ∷ masks) zero t e low =
    let same : s ≡ t = omega arith in
    filter-append (λ c. c.scope == t) (candidates_at s (ones_of m)) (members_from (s + 1) masks)
    ∙ (λ i. on_this s t (ones_of m) same i ++ nothing_on t (s + 1) masks (omega arith) i)
    ∙ append-nil (candidates_at s (ones_of m)) ∙ ap (λ u. candidates_at u (ones_of m)) same
on_scope_from s (m ∷ masks) (suc i) t e low =
    filter-append (λ c. c.scope == t) (candidates_at s (ones_of m)) (members_from (s + 1) masks)
    ∙ (λ j. on_other s t (ones_of m) (λ same. omega arith) j ++ on_scope_from (s + 1) masks i t (omega arith) (omega arith) j)

-- the relations of the candidates on a scope are the ones of its mask
pub relations_at : (masks : List ℕ) (i : ℕ) → i < length masks → map (λ (c : Candidate). c.rel) (filter (λ c. c.scope == i) (members_from 0 masks)) ≡ ones_of (slice_index_or masks i 0)
relations_at masks i low =
    ap (map (λ (c : Candidate). c.rel)) (on_scope_from 0 masks i i (omega arith) low)
    ∙ map-map (λ (c : Candidate). c.rel) (candidate_at i) (ones_of (slice_index_or masks i 0)) ∙ map-same (ones_of (slice_index_or masks i 0))

-- what is read at a place
pub read_at : (masks : List ℕ) (s i x : ℕ) → s < length masks → i ≡ s → x ≡ slice_index_or masks i x → x ≡ slice_index_or masks s 0
read_at masks s i x low same is = get_or_read masks s x low (is ∙ ap (λ t. slice_index_or masks t x) same) 0
