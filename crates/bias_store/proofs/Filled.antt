-- Masks that take all relations, one scope after another.
use Rattle.bias_store.proofs.Prelude.{◌≡◌, ℕ, zero, suc, ◌+◌, ◌*◌, ◌<◌, ◌≤◌, List, [], ◌∷◌, ◌++◌, length, refl, sym, ◌∙◌, ap, subst, arith, inl, inr, ◌⊎◌, get_or-set_same, get_or-set_other, length-append, add-one, slice_index_or, slice_set, All, flat_map, range_with_len, cases_eq, length-set, length-map, All-nil, All-cons, All-head, All-tail, All-append, All-map, numbers, Candidate, Language, IsCandidate, candidates, candidates_on, relations_on, ones_of, members_from}
use Rattle.std.proofs.lemmas.List.Concat.{flat_map-append}
use Rattle.std.proofs.lemmas.List.FromFn.{length-range_with_len}
use Rattle.language.specs.Answers.{IsNetwork}
use Rattle.bias_store.proofs.Members.{candidate_at, members_from-all}

-- ---- the candidates of the first scopes

next_number : (a n : ℕ) → range_with_len a (suc n) ≡ range_with_len a n ++ (a + n) ∷ []
next_number a zero = ap (λ t. t ∷ []) (let e : a ≡ a + 0 = omega arith in e)
next_number a (suc n) = ap (λ xs. a ∷ xs) (next_number (a + 1) n ∙ ap (λ t. range_with_len (a + 1) n ++ t ∷ []) (let e : a + 1 + n ≡ a + suc n = omega arith in e))

-- the candidates of the scopes below s
abbrev pub candidates_below : Language → ℕ → List Candidate
candidates_below l s = flat_map (candidates_on l) (numbers s)

below_more : (l : Language) (s : ℕ) → candidates_below l (s + 1) ≡ candidates_below l s ++ (candidates_on l s ++ [])
below_more l s =
    ap (candidates_below l) (add-one s)
    ∙ ap (flat_map (candidates_on l)) (next_number 0 s ∙ ap (λ t. numbers s ++ t ∷ []) (let e : 0 + s ≡ s = omega arith in e))
    ∙ flat_map-append (candidates_on l) (numbers s) (s ∷ [])

count_more : (l : Language) (s : ℕ) → length (candidates_below l (s + 1)) ≡ length (candidates_below l s) + length (relations_on l s)
count_more l s = omega (
  arith,
  ap length (below_more l s),
  length-append (candidates_below l s) (candidates_on l s ++ []),
  length-append (candidates_on l s) [],
  length-map (numbers (length (relations_on l s))) (candidate_at s),
  length-range_with_len 0 (length (relations_on l s)),
)

-- ---- the masks of the first scopes have all relations

pub record IsFilled (l : Language) (masks : List ℕ) (s count : ℕ) : Type 0 where
  pub long : length masks ≡ length l.scopes
  pub counted : count ≡ length (candidates_below l s)
  pub small : count ≤ 64 * s
  pub filled : (k : ℕ) → k < s → ones_of (slice_index_or masks k 0) ≡ numbers (length (relations_on l k))

pub filled_none : (l : Language) (masks : List ℕ) → length masks ≡ length l.scopes → IsFilled l masks 0 0
filled_none l masks long = record { long = long; counted = refl; small = omega arith; filled = λ k low. absurd (omega arith) }

pub filled_more : (l : Language) (masks : List ℕ) (s count mask n : ℕ) → IsFilled l masks s count → s < length l.scopes → n ≡ length (relations_on l s) → n ≤ 64 → ones_of mask ≡ numbers n →
    IsFilled l (slice_set masks s mask) (s + 1) (count + n)
filled_more l masks s count mask n before low is few here =
    let counted = before.counted in
    let small = before.small in
    let long = before.long in
    record {
      long = length-set masks s mask ∙ before.long;
      counted = omega (arith, count_more l s);
      small = omega arith;
      filled = λ k below. go k below (cases_eq k s);
    }
  where
    go : (k : ℕ) → k < s + 1 → (k ≡ s) ⊎ (k ≡ s → ⊥) → ones_of (slice_index_or (slice_set masks s mask) k 0) ≡ numbers (length (relations_on l k))
    go k below (inl same) = subst (λ (t : ℕ). ones_of (slice_index_or (slice_set masks s mask) t 0) ≡ numbers (length (relations_on l t))) (sym same)
        (ap ones_of (get_or-set_same masks s mask 0 (let long = before.long in omega arith)) ∙ here ∙ ap numbers is)
    go k below (inr other) = ap ones_of (get_or-set_other masks s k mask 0 other) ∙ before.filled k (omega arith)

pub filled_all : (l : Language) (masks : List ℕ) (s count : ℕ) → IsFilled l masks s count → s ≡ length l.scopes → (members_from 0 masks ≡ candidates l) × (count ≡ length (members_from 0 masks))
filled_all l masks s count is end =
    let long = is.long in
    let all : members_from 0 masks ≡ candidates l =
    members_from-all (λ t. numbers (length (relations_on l t))) 0 masks (λ k low. is.filled k (omega arith) ∙ ap (λ t. numbers (length (relations_on l t))) (let e : k ≡ 0 + k = omega arith in e))
    ∙ ap (candidates_below l) is.long in
    (all, is.counted ∙ ap (λ t. length (candidates_below l t)) end ∙ ap length (sym all))

-- ---- they are candidates

all_numbers : (P : ℕ → Type 0) (a n : ℕ) → ((v : ℕ) → v < a + n → P v) → All P (range_with_len a n)
all_numbers P a zero h = All-nil P
all_numbers P a (suc n) h = All-cons P a (range_with_len (a + 1) n) (h a (omega arith)) (all_numbers P (a + 1) n (λ v low. h v (omega arith)))

all_flat_map : {X Y : Type 0} (P : Y → Type 0) (f : X → List Y) (Q : X → Type 0) (xs : List X) → ((x : X) → Q x → All P (f x)) → All Q xs → All P (flat_map f xs)
all_flat_map P f Q [] h all = All-nil P
all_flat_map P f Q (x ∷ xs) h all = All-append P (f x) (flat_map f xs) (h x (All-head Q x xs all)) (all_flat_map P f Q xs h (All-tail Q x xs all))

pub candidates_known : (l : Language) → IsNetwork l (candidates l)
candidates_known l = all_flat_map (IsCandidate l) (candidates_on l) (λ s. s < length l.scopes) (numbers (length l.scopes))
    (λ s low. All-map (IsCandidate l) (candidate_at s) (numbers (length (relations_on l s)))
    (all_numbers (λ r. IsCandidate l (candidate_at s r)) 0 (length (relations_on l s)) (λ r few. record { scope = low; rel = omega arith })))
    (all_numbers (λ s. s < length l.scopes) 0 (length l.scopes) (λ s low. omega arith))
