-- Candidates that are among others.
use Rattle.query_gen.proofs.Prelude.{◌≡◌, ℕ, ◌<◌, Bool, true, false, ◌&&◌, List, [], ◌∷◌, cond, length, refl, sym, ◌∙◌, ap, subst, slice_index_or, ◌==◌, ◌↔◌, IsTrue, All, Contains, filter, All-contains, filter_passes, All-head, All-tail, Any-from_list_any, list_any_at, and_from, and_parts, eq-eqb, eqb-true, both_ways, false_from_ne_true, Candidate, candidates, any-filter, is_among, PickedAreInOrder}

abbrev pub is_same : Candidate → Candidate → Bool
is_same d c = (d.scope == c.scope) && (d.rel == c.rel)

same_parts : (d c : Candidate) → d.scope ≡ c.scope → d.rel ≡ c.rel → d ≡ c
same_parts d c s r = λ i. record { scope = s i; rel = r i }

same_from : (d c : Candidate) → is_same d c ≡ true → d ≡ c
same_from d c h = let parts = and_parts (d.scope == c.scope) (d.rel == c.rel) h in same_parts d c (eqb-true d.scope c.scope parts.0) (eqb-true d.rel c.rel parts.1)

pub same_itself : (c : Candidate) → is_same c c ≡ true
same_itself c = and_from _ _ (eq-eqb c.scope c.scope refl) (eq-eqb c.rel c.rel refl)

pub among_contained : (kept : List Candidate) (c : Candidate) → is_among kept c ≡ true → Contains kept c
among_contained kept c h = go (Any-from_list_any (λ d. is_same d c) kept h)
  where
    go : (k : ℕ) × (d : Candidate) × (k < length kept) × (slice_index_or kept k d ≡ d) × (is_same d c ≡ true) → Contains kept c
    go (k, d, low, at, same) = subst (λ (x : Candidate). Contains kept x) (same_from d c same) (k, low, at)

pub contained_among : (kept : List Candidate) (c : Candidate) → Contains kept c → is_among kept c ≡ true
contained_among kept c (k, low, at) = list_any_at (λ d. is_same d c) kept k c low (subst (λ (x : Candidate). is_same x c ≡ true) (sym at) (same_itself c))

-- a test that tells the members
pub among_is : (kept : List Candidate) (c : Candidate) (b : Bool) → (IsTrue b ↔ Contains kept c) → is_among kept c ≡ b
among_is kept c true h = contained_among kept c (h.0 refl)
among_is kept c false h = false_from_ne_true (is_among kept c) (λ on. both_ways false refl (h.1 (among_contained kept c on)))

-- ---- Order

keeps_same : (p q : Candidate → Bool) (xs : List Candidate) → All (λ x. p x ≡ q x) xs → filter p xs ≡ filter q xs
keeps_same p q [] h = refl
keeps_same p q (x ∷ xs) h =
    let here : p x ≡ q x = All-head (λ x. p x ≡ q x) x xs h in
    ap (λ b. cond b (x ∷ filter p xs) (filter p xs)) here
    ∙ ap (λ ys. cond (q x) (x ∷ ys) ys) (keeps_same p q xs (All-tail (λ x. p x ≡ q x) x xs h))

pub picked_are_in_order : PickedAreInOrder
picked_are_in_order l test = keeps_same (is_among (filter test (candidates l))) test (candidates l) (λ k d low. tells (slice_index_or (candidates l) k d) k d low refl)
  where
    tells : (x : Candidate) (k : ℕ) (d : Candidate) → k < length (candidates l) → slice_index_or (candidates l) k d ≡ x → is_among (filter test (candidates l)) x ≡ test x
    tells x k d low at = go (test x) refl
      where
        go : (b : Bool) → test x ≡ b → is_among (filter test (candidates l)) x ≡ b
        go true on =
            any-filter (λ y. is_same y x) test (candidates l)
            ∙ list_any_at (λ y. test y && is_same y x) (candidates l) k d low (subst (λ (y : Candidate). (test y && is_same y x) ≡ true) (sym at) (and_from _ _ on (same_itself x)))
        go false off = false_from_ne_true _ (λ on. both_ways (test x) off
            (All-contains (λ y. test y ≡ true) (filter test (candidates l)) x (filter_passes test (candidates l)) (among_contained (filter test (candidates l)) x on)))
