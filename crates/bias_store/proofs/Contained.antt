-- Which candidates are members, by the bits of the masks.
use Rattle.bias_store.proofs.Prelude.{◌≡◌, ℕ, zero, suc, ◌+◌, ◌<◌, ◌≤◌, true, ◌||◌, List, [], ◌∷◌, length, sym, ◌∙◌, ap, subst, arith, inl, inr, ◌⊎◌, ◌==◌, slice_index_or, Contains, eq-eqb, ne_eqb, cases_eq, Contains-append_left, Contains-append_right, Contains-append_cases, list_any_at, has, Candidate, ones_of, candidates_at, members_from}
use Rattle.bias_store.proofs.Members.{candidate_at}

has_contained : (xs : List ℕ) (r : ℕ) → Contains xs r → has xs r ≡ true
has_contained xs r (k, low, same) = list_any_at (λ x. x == r) xs k r low (eq-eqb (slice_index_or xs k r) r same)

contained_has : (xs : List ℕ) (r : ℕ) → has xs r ≡ true → Contains xs r
contained_has [] r h = cc
contained_has (x ∷ xs) r h = go (cases_eq x r) (contained_has xs r)
  where
    go : (x ≡ r) ⊎ (x ≡ r → ⊥) → (has xs r ≡ true → Contains xs r) → Contains (x ∷ xs) r
    go (inl same) rest = (0, omega arith, same)
    go (inr other) rest = Contains-append_right (x ∷ []) xs r (rest (ap (λ b. b || has xs r) (sym (ne_eqb x r other)) ∙ h))

-- ---- a mapped list

mapped_there : (s : ℕ) (relations : List ℕ) (r : ℕ) → Contains relations r → Contains (candidates_at s relations) (candidate_at s r)
mapped_there s [] r (k, low, same) = absurd (omega arith)
mapped_there s (x ∷ relations) r (zero, low, same) = (0, omega arith, ap (candidate_at s) same)
mapped_there s (x ∷ relations) r (suc k, low, same) = Contains-append_right (candidate_at s x ∷ []) (candidates_at s relations) (candidate_at s r) (mapped_there s relations r (k, omega arith, same))

mapped_from : (s : ℕ) (relations : List ℕ) (c : Candidate) → Contains (candidates_at s relations) c → (c.scope ≡ s) × Contains relations c.rel
mapped_from s [] c (k, low, same) = absurd (omega arith)
mapped_from s (x ∷ relations) c (zero, low, same) = (ap (λ (d : Candidate). d.scope) (sym same), (0, omega arith, ap (λ (d : Candidate). d.rel) same))
mapped_from s (x ∷ relations) c (suc k, low, same) =
    let rest = mapped_from s relations c (k, omega arith, same) in
    (rest.0, Contains-append_right (x ∷ []) relations c.rel rest.1)

-- ---- the members of masks

there_from : (s : ℕ) (masks : List ℕ) (i t r : ℕ) → t ≡ s + i → i < length masks → Contains (ones_of (slice_index_or masks i 0)) r → Contains (members_from s masks) (candidate_at t r)
there_from s [] i t r e low h = absurd (omega arith)
there_from s (m ∷ masks) zero t r e low h = Contains-append_left (candidates_at s (ones_of m)) (members_from (s + 1) masks) (candidate_at t r)
    (subst (λ (u : ℕ). Contains (candidates_at s (ones_of m)) (candidate_at u r)) (let f : s ≡ t = omega arith in f) (mapped_there s (ones_of m) r h))
there_from s (m ∷ masks) (suc i) t r e low h = Contains-append_right (candidates_at s (ones_of m)) (members_from (s + 1) masks) (candidate_at t r) (there_from (s + 1) masks i t r (omega arith) (omega arith) h)

-- the candidate stands on a scope of the masks, and its relation is one of its mask's
record IsThere (s : ℕ) (masks : List ℕ) (c : Candidate) : Type 0 where
  at : ℕ
  low : at < length masks
  scope : c.scope ≡ s + at
  rel : Contains (ones_of (slice_index_or masks at 0)) c.rel

from_there : (s : ℕ) (masks : List ℕ) (c : Candidate) → Contains (members_from s masks) c → IsThere s masks c
from_there s [] c (k, low, same) = absurd (omega arith)
from_there s (m ∷ masks) c h = go (Contains-append_cases (candidates_at s (ones_of m)) (members_from (s + 1) masks) c h) (from_there (s + 1) masks c)
  where
    go : Contains (candidates_at s (ones_of m)) c ⊎ Contains (members_from (s + 1) masks) c → (Contains (members_from (s + 1) masks) c → IsThere (s + 1) masks c) → IsThere s (m ∷ masks) c
    go (inl here) rest = let both = mapped_from s (ones_of m) c here in record { at = 0; low = omega arith; scope = both.0 ∙ (let e : s ≡ s + 0 = omega arith in e); rel = both.1 }
    go (inr later) rest = let there = rest later in let low = there.low in record { at = suc there.at; low = omega arith; scope = there.scope ∙ (let e : s + 1 + there.at ≡ s + suc there.at = omega arith in e); rel = there.rel }

-- a member is told by its relation in its scope's mask
pub kept_is : (masks : List ℕ) (c : Candidate) (mask : ℕ) → c.scope < length masks → mask ≡ slice_index_or masks c.scope 0 → has (ones_of mask) c.rel ≡ true → Contains (members_from 0 masks) c
kept_is masks c mask low here one =
    there_from 0 masks c.scope c.scope c.rel (omega arith) low (contained_has (ones_of (slice_index_or masks c.scope 0)) c.rel (ap (λ m. has (ones_of m) c.rel) (sym here) ∙ one))

pub kept_on : (masks : List ℕ) (c : Candidate) (mask : ℕ) → mask ≡ slice_index_or masks c.scope 0 → Contains (members_from 0 masks) c → has (ones_of mask) c.rel ≡ true
kept_on masks c mask here h =
    let there : IsThere 0 masks c = from_there 0 masks c h in
    let at : there.at ≡ c.scope = (let scope = there.scope in omega arith) in
    has_contained (ones_of mask) c.rel (subst (λ m. Contains (ones_of m) c.rel) (ap (λ i. slice_index_or masks i 0) at ∙ sym here) there.rel)

-- no member stands past the scopes
pub none_past : (masks : List ℕ) (c : Candidate) → length masks ≤ c.scope → Contains (members_from 0 masks) c → ⊥
none_past masks c past h = let there : IsThere 0 masks c = from_there 0 masks c h in let low = there.low in let scope = there.scope in omega arith
