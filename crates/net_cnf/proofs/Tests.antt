-- Tests of all members of a list, through the functions that make the lists of clauses.
use Rattle.net_cnf.proofs.Prelude.{◌≡◌, ℕ, zero, suc, ◌+◌, ◌<◌, ◌≤◌, ◌&&◌, ◌||◌, not, Bool, true, false, cond, List, [], ◌∷◌, map, refl, sym, ◌∙◌, ap, arith, eqb, ◌⊎◌, inl, inr, list_all, filter, flat_map, range_with_len, cases_eq, eq-eqb, ne_eqb, and_from, and_parts, length-range_with_len, get_or-range_with_len, list_all-append, list_all-map, list_all-from_AllPass, each_two}

pub all-flat_map : {X Y : Type 0} (p : Y → Bool) (f : X → List Y) (xs : List X) → list_all p (flat_map f xs) ≡ list_all (λ x. list_all p (f x)) xs
all-flat_map p f [] = refl
all-flat_map p f (x ∷ xs) = list_all-append p (f x) (flat_map f xs) ∙ ap (λ b. list_all p (f x) && b) (all-flat_map p f xs)

all_cond : {X : Type 0} (p : X → Bool) (s : Bool) (x : X) (xs : List X) → list_all p (cond (not s) (x ∷ xs) xs) ≡ ((s || p x) && list_all p xs)
all_cond p true x xs = refl
all_cond p false x xs = refl

-- those that fail the first test pass the second one
pub all_failing : {X : Type 0} (s p : X → Bool) (xs : List X) → list_all p (filter (λ x. not (s x)) xs) ≡ list_all (λ x. s x || p x) xs
all_failing s p [] = refl
all_failing s p (x ∷ xs) = all_cond p (s x) x (filter (λ y. not (s y)) xs) ∙ ap (λ b. (s x || p x) && b) (all_failing s p xs)

-- ---- numbers

pub all_range : (p : ℕ → Bool) (a n : ℕ) → ((v : ℕ) → a ≤ v → v < a + n → p v ≡ true) → list_all p (range_with_len a n) ≡ true
all_range p a n h = list_all-from_AllPass p (range_with_len a n) (λ k d low.
    let fits : k < n = (let e = length-range_with_len a n in omega (arith, e)) in
    ap p (get_or-range_with_len a n k d fits) ∙ h (a + k) (omega arith) (omega arith))

pub at_range : (p : ℕ → Bool) (a n v : ℕ) → list_all p (range_with_len a n) ≡ true → a ≤ v → v < a + n → p v ≡ true
at_range p a zero v h low high = absurd (omega arith)
at_range p a (suc n) v h low high = go (cases_eq a v) (λ from. at_range p (a + 1) n v parts.1 from (omega arith))
  where
    parts : (p a ≡ true) × (list_all p (range_with_len (a + 1) n) ≡ true)
    parts = and_parts (p a) (list_all p (range_with_len (a + 1) n)) h

    go : (a ≡ v) ⊎ (a ≡ v → ⊥) → (a + 1 ≤ v → p v ≡ true) → p v ≡ true
    go (inl same) next = ap p (sym same) ∙ parts.0
    go (inr apart) next = next (omega arith)

-- the same answer at each number
pub all_same : (p q : ℕ → Bool) (a n : ℕ) → ((v : ℕ) → a ≤ v → v < a + n → p v ≡ q v) → list_all p (range_with_len a n) ≡ list_all q (range_with_len a n)
all_same p q a zero h = refl
all_same p q a (suc n) h = λ i. h a (omega arith) (omega arith) i && all_same p q (a + 1) n (λ v low high. h v (omega arith) (omega arith)) i

-- a test that asks something of one number alone
pub only_one : (z : ℕ → Bool) (y a n : ℕ) → a ≤ y → y < a + n → list_all (λ x. cond (eqb y x) (z x) true) (range_with_len a n) ≡ z y
only_one z y a n low high = go (z y) refl
  where
    go : (b : Bool) → z y ≡ b → list_all (λ x. cond (eqb y x) (z x) true) (range_with_len a n) ≡ b
    go true on = all_range _ a n (λ v from below. each v (cases_eq y v))
      where
        each : (v : ℕ) → (y ≡ v) ⊎ (y ≡ v → ⊥) → cond (eqb y v) (z v) true ≡ true
        each v (inl same) = ap (λ b. cond b (z v) true) (eq-eqb y v same) ∙ ap z (sym same) ∙ on
        each v (inr apart) = ap (λ b. cond b (z v) true) (ne_eqb y v apart)
    go false off = none (list_all (λ x. cond (eqb y x) (z x) true) (range_with_len a n)) refl
      where
        here : cond (eqb y y) (z y) true ≡ false
        here = ap (λ b. cond b (z y) true) (eq-eqb y y refl) ∙ off

        none : (b : Bool) → list_all (λ x. cond (eqb y x) (z x) true) (range_with_len a n) ≡ b → b ≡ false
        none false is = refl
        none true is = sym (at_range (λ x. cond (eqb y x) (z x) true) a n y is low high) ∙ here

-- ---- each two

pub all_two : {X Y : Type 0} (p : Y → Bool) (f : X → X → Y) (g : ℕ → X) (a n : ℕ) → ((i j : ℕ) → a ≤ i → i < j → j < a + n → p (f (g i) (g j)) ≡ true) → list_all p (each_two f (map g (range_with_len a n))) ≡ true
all_two p f g a zero h = refl
all_two p f g a (suc n) h =
    list_all-append p (map (f (g a)) (map g (range_with_len (a + 1) n))) (each_two f (map g (range_with_len (a + 1) n)))
    ∙ and_from _ _
    (list_all-map p (f (g a)) (map g (range_with_len (a + 1) n)) ∙ list_all-map (λ x. p (f (g a) x)) g (range_with_len (a + 1) n)
    ∙ all_range (λ j. p (f (g a) (g j))) (a + 1) n (λ j low high. h a j (omega arith) (omega arith) (omega arith)))
    (all_two p f g (a + 1) n (λ i j low before high. h i j (omega arith) before (omega arith)))

pub at_two : {X Y : Type 0} (p : Y → Bool) (f : X → X → Y) (g : ℕ → X) (a n i j : ℕ) → list_all p (each_two f (map g (range_with_len a n))) ≡ true → a ≤ i → i < j → j < a + n → p (f (g i) (g j)) ≡ true
at_two p f g a zero i j h low before high = absurd (omega arith)
at_two p f g a (suc n) i j h low before high = go (cases_eq a i) (λ from. at_two p f g (a + 1) n i j parts.1 from before (omega arith))
  where
    parts : (list_all p (map (f (g a)) (map g (range_with_len (a + 1) n))) ≡ true) × (list_all p (each_two f (map g (range_with_len (a + 1) n))) ≡ true)
    parts = and_parts _ _ (sym (list_all-append p (map (f (g a)) (map g (range_with_len (a + 1) n))) (each_two f (map g (range_with_len (a + 1) n)))) ∙ h)

    go : (a ≡ i) ⊎ (a ≡ i → ⊥) → (a + 1 ≤ i → p (f (g i) (g j)) ≡ true) → p (f (g i) (g j)) ≡ true
    go (inl same) next =
        ap (λ k. p (f (g k) (g j))) (sym same)
        ∙ at_range (λ k. p (f (g a) (g k))) (a + 1) n j
        (sym (list_all-map p (f (g a)) (map g (range_with_len (a + 1) n)) ∙ list_all-map (λ x. p (f (g a) x)) g (range_with_len (a + 1) n)) ∙ parts.0) (omega arith) (omega arith)
    go (inr apart) next = next (omega arith)
