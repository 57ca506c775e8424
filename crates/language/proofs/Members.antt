-- What some member of a list passes, through the functions that make the lists of the definitions.
use Rattle.language.proofs.Prelude.{◌≡◌, ℕ, zero, suc, ◌+◌, ◌<◌, ◌≤◌, Bool, true, false, cond, ◌||◌, ◌&&◌, List, [], ◌∷◌, length, map, Some, None, refl, sym, ◌∙◌, ap, arith, inl, inr, ◌⊎◌, find, All, list_any, filter, flat_map, range_with_len, list_any-append, All-head, All-tail, cases_eq, or_left, or_right, Candidate, numbers, tuples, Language, IsCandidate, candidates, candidates_on, All-map}
use Rattle.language.proofs.Lists.{all_below}
use Rattle.shared_lemmas.proofs.Lists.{all_flat_map}

any_cond : {X : Type 0} (p : X → Bool) (b : Bool) (x : X) (xs : List X) → list_any p (cond b (x ∷ xs) xs) ≡ ((b && p x) || list_any p xs)
any_cond p true x xs = refl
any_cond p false x xs = refl

pub any-filter : {X : Type 0} (p t : X → Bool) (xs : List X) → list_any p (filter t xs) ≡ list_any (λ x. t x && p x) xs
any-filter p t [] = refl
any-filter p t (x ∷ xs) = any_cond p (t x) x (filter t xs) ∙ ap (λ b. (t x && p x) || b) (any-filter p t xs)

pub any-map : {X Y : Type 0} (p : Y → Bool) (f : X → Y) (xs : List X) → list_any p (map f xs) ≡ list_any (λ x. p (f x)) xs
any-map p f [] = refl
any-map p f (x ∷ xs) = ap (λ b. p (f x) || b) (any-map p f xs)

pub any-flat_map : {X Y : Type 0} (p : Y → Bool) (f : X → List Y) (xs : List X) → list_any p (flat_map f xs) ≡ list_any (λ x. list_any p (f x)) xs
any-flat_map p f [] = refl
any-flat_map p f (x ∷ xs) = list_any-append p (f x) (flat_map f xs) ∙ ap (λ b. list_any p (f x) || b) (any-flat_map p f xs)

any_range : (p : ℕ → Bool) (a n v : ℕ) → a ≤ v → v < a + n → p v ≡ true → list_any p (range_with_len a n) ≡ true
any_range p a zero v low high at = absurd (omega arith)
any_range p a (suc n) v low high at = go (cases_eq a v) (λ further. any_range p (a + 1) n v further (omega arith) at)
  where
    go : (a ≡ v) ⊎ (a ≡ v → ⊥) → (a + 1 ≤ v → list_any p (range_with_len (a + 1) n) ≡ true) → list_any p (range_with_len a (suc n)) ≡ true
    go (inl same) next = or_left (p a) (list_any p (range_with_len (a + 1) n)) (ap p same ∙ at)
    go (inr other) next = or_right (p a) (list_any p (range_with_len (a + 1) n)) (next (omega arith))

pub any_number : (p : ℕ → Bool) (n v : ℕ) → v < n → p v ≡ true → list_any p (numbers n) ≡ true
any_number p n v low at = any_range p 0 n v (omega arith) (omega arith) at

pub any_candidate : (l : Language) (p : Candidate → Bool) (c : Candidate) → IsCandidate l c → p c ≡ true → list_any p (candidates l) ≡ true
any_candidate l p c is at =
    any-flat_map p (candidates_on l) (numbers (length l.scopes))
    ∙ any_number (λ s. list_any p (candidates_on l s)) (length l.scopes) c.scope is.scope
    (any-map p (λ (r : ℕ). record { scope = c.scope; rel = r }) _ ∙ any_number (λ r. p (record { scope = c.scope; rel = r })) _ c.rel is.rel at)

pub any_tuple : (p : List ℕ → Bool) (d a : ℕ) (tuple : List ℕ) → length tuple ≡ a → All (λ x. x < d) tuple → p tuple ≡ true → list_any p (tuples d a) ≡ true
any_tuple p d zero [] long small at = or_left (p []) false at
any_tuple p d zero (x ∷ tuple) long small at = absurd (omega arith)
any_tuple p d (suc a) [] long small at = absurd (omega arith)
any_tuple p d (suc a) (x ∷ tuple) long small at =
    any-flat_map p (λ (y : ℕ). map (λ rest. y ∷ rest) (tuples d a)) (numbers d)
    ∙ any_number (λ y. list_any p (map (λ rest. y ∷ rest) (tuples d a))) d x (All-head (λ y. y < d) x tuple small)
    (any-map p (λ rest. x ∷ rest) (tuples d a) ∙ any_tuple (λ rest. p (x ∷ rest)) d a tuple (omega arith) (All-tail (λ y. y < d) x tuple small) at)

pub find_none : {X : Type 0} (p : X → Bool) (xs : List X) → find p xs ≡ None → list_any p xs ≡ false
find_none p [] h = refl
find_none p (x ∷ xs) h = go (p x) refl (find_none p xs)
  where
    go : (b : Bool) → p x ≡ b → (find p xs ≡ None → list_any p xs ≡ false) → list_any p (x ∷ xs) ≡ false
    go true on rest = absurd (some_is_none (ap (λ b. cond b (Some x) (find p xs)) (sym on) ∙ h))
      where
        some_is_none : Some x ≡ None → ⊥
        some_is_none e = cc
    go false off rest = ap (λ b. b || list_any p xs) off ∙ rest (ap (λ b. cond b (Some x) (find p xs)) (sym off) ∙ h)

pub find_some : {X : Type 0} (p : X → Bool) (xs : List X) (y : X) → find p xs ≡ Some y → p y ≡ true
find_some p [] y h = cc
find_some p (x ∷ xs) y h = go (p x) refl (find_some p xs y)
  where
    go : (b : Bool) → p x ≡ b → (find p xs ≡ Some y → p y ≡ true) → p y ≡ true
    go true on rest = let e : Some x ≡ Some y = ap (λ b. cond b (Some x) (find p xs)) (sym on) ∙ h in let same : x ≡ y = cc in ap p (sym same) ∙ on
    go false off rest = rest (ap (λ b. cond b (Some x) (find p xs)) (sym off) ∙ h)

-- each candidate of a language is one of it
pub all_candidates : (l : Language) → All (IsCandidate l) (candidates l)
all_candidates l = all_flat_map (IsCandidate l) (candidates_on l) (numbers (length l.scopes))
    (all_below (λ s. All (IsCandidate l) (candidates_on l s)) (length l.scopes) (λ s low.
    All-map (IsCandidate l) (λ (r : ℕ). record { scope = s; rel = r }) _
    (all_below (λ r. IsCandidate l (record { scope = s; rel = r })) _ (λ r low_r. record { scope = low; rel = low_r }))))
