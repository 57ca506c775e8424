-- Noting conditions, and variables that have to differ.
use Rattle.propagators.proofs.Prelude.{◌≡◌, ℕ, ◌+◌, ◌*◌, ◌/◌, ◌%◌, ◌<◌, ◌≤◌, true, List, [], ◌∷◌, length, All, sym, ◌∙◌, ap, subst, arith, inl, inr, ◌⊎◌, ◌||◌, ◌==◌, ◌≢◌, refl, replicate, slice_index_or, slice_set, get_or-replicate, get_or_past, length-replicate, get_or-set_same, get_or-set_other, or_cases, or_left, or_right, both_ways, cases_eq, cases_lt, eq-eqb, eqb-true, has, ones_of, Arc, Brief, Pair, IsApart, IsApartAt, IsParted, AreApartSoFar, HasApart, is_with, ones_of-zero}
use Rattle.propagators.specs.Briefs.{AreBothOf}
use Rattle.propagators.specs.declared.briefs.Brief.TheVariants.{Two, Apart, Other}
use Rattle.propagators.proofs.Cutting.{member_at}
use Rattle.propagators.proofs.Replacing.{member_place}

-- ---- a number is noted

pub set_grows : (sets : List ℕ) (at m x : ℕ) → at < length sets → ((y : ℕ) → has (ones_of m) y ≡ (has (ones_of (slice_index_or sets at 0)) y || (x == y))) → (q b : ℕ) → has (ones_of (slice_index_or sets q 0)) b ≡ true → has (ones_of (slice_index_or (slice_set sets at m) q 0)) b ≡ true
set_grows sets at m x low is q b h = go (cases_eq q at)
  where
    go : (q ≡ at) ⊎ (q ≢ at) → has (ones_of (slice_index_or (slice_set sets at m) q 0)) b ≡ true
    go (inl same) = ap (λ k. has (ones_of (slice_index_or (slice_set sets at m) k 0)) b) same ∙ ap (λ k. has (ones_of k) b) (get_or-set_same sets at m 0 low) ∙ is b ∙ or_left _ _ (ap (λ k. has (ones_of (slice_index_or sets k 0)) b) (sym same) ∙ h)
    go (inr other) = ap (λ k. has (ones_of k) b) (get_or-set_other sets at q m 0 other) ∙ h

pub set_there : (sets : List ℕ) (at m x : ℕ) → at < length sets → ((y : ℕ) → has (ones_of m) y ≡ (has (ones_of (slice_index_or sets at 0)) y || (x == y))) → has (ones_of (slice_index_or (slice_set sets at m) at 0)) x ≡ true
set_there sets at m x low is = ap (λ k. has (ones_of k) x) (get_or-set_same sets at m 0 low) ∙ is x ∙ or_right _ _ (eq-eqb x x refl)

pub noted_more : (scope : List ℕ) (words i index : ℕ) (sets : List ℕ) (at m v : ℕ) → at ≡ i / 64 * 128 + v → v ≡ slice_index_or scope index 0 → at < length sets →
    ((y : ℕ) → has (ones_of m) y ≡ (has (ones_of (slice_index_or sets at 0)) y || (i % 64 == y))) →
    ((j : ℕ) → j < index → has (ones_of (slice_index_or sets (i / 64 * 128 + slice_index_or scope j 0) 0)) (i % 64) ≡ true) →
    (j : ℕ) → j < index + 1 → has (ones_of (slice_index_or (slice_set sets at m) (i / 64 * 128 + slice_index_or scope j 0) 0)) (i % 64) ≡ true
noted_more scope words i index sets at m v place var low is old j below = go (cases_eq j index)
  where
    go : (j ≡ index) ⊎ (j ≢ index) → has (ones_of (slice_index_or (slice_set sets at m) (i / 64 * 128 + slice_index_or scope j 0) 0)) (i % 64) ≡ true
    go (inl same) = ap (λ k. has (ones_of (slice_index_or (slice_set sets at m) k 0)) (i % 64)) (sym (place ∙ ap (λ u. i / 64 * 128 + u) (var ∙ ap (λ k. slice_index_or scope k 0) (sym same)))) ∙ set_there sets at m (i % 64) low is
    go (inr other) = set_grows sets at m (i % 64) low is (i / 64 * 128 + slice_index_or scope j 0) (i % 64) (old j (omega arith))

pub set_only : (sets : List ℕ) (at m x : ℕ) → at < length sets → ((y : ℕ) → has (ones_of m) y ≡ (has (ones_of (slice_index_or sets at 0)) y || (x == y))) → (q b : ℕ) → has (ones_of (slice_index_or (slice_set sets at m) q 0)) b ≡ true → (has (ones_of (slice_index_or sets q 0)) b ≡ true) ⊎ ((q ≡ at) × (b ≡ x))
set_only sets at m x low is q b h = go (cases_eq q at)
  where
    pick : q ≡ at → (has (ones_of (slice_index_or sets at 0)) b ≡ true) ⊎ ((x == b) ≡ true) → (has (ones_of (slice_index_or sets q 0)) b ≡ true) ⊎ ((q ≡ at) × (b ≡ x))
    pick same (inl old) = inl (ap (λ k. has (ones_of (slice_index_or sets k 0)) b) same ∙ old)
    pick same (inr new) = inr (same, sym (eqb-true x b new))

    go : (q ≡ at) ⊎ (q ≢ at) → (has (ones_of (slice_index_or sets q 0)) b ≡ true) ⊎ ((q ≡ at) × (b ≡ x))
    go (inr other) = inl (ap (λ k. has (ones_of k) b) (sym (get_or-set_other sets at q m 0 other)) ∙ h)
    go (inl same) = pick same (or_cases _ _ (sym (is b) ∙ ap (λ k. has (ones_of k) b) (sym (get_or-set_same sets at m 0 low)) ∙ ap (λ k. has (ones_of (slice_index_or (slice_set sets at m) k 0)) b) (sym same) ∙ h))

-- each of the first conditions is with its variables, or something else is known of it
pub noted_next : (arcs : List Arc) (i : ℕ) (scope sets more : List ℕ) (known still : ℕ → Type 0) → ((a : Arc) → (slice_index_or arcs i a).scope ≡ scope) →
    ((q b : ℕ) → has (ones_of (slice_index_or sets q 0)) b ≡ true → has (ones_of (slice_index_or more q 0)) b ≡ true) →
    ((j : ℕ) → j < length scope → is_with more (slice_index_or scope j 0) i ≡ true) → ((k : ℕ) → k < i → known k → still k) →
    ((k v : ℕ) (a : Arc) → k < i → has (slice_index_or arcs k a).scope v ≡ true → (is_with sets v k ≡ true) ⊎ known k) →
    (k v : ℕ) (a : Arc) → k < i + 1 → has (slice_index_or arcs k a).scope v ≡ true → (is_with more v k ≡ true) ⊎ still k
noted_next arcs i scope sets more known still is grows there stays old k v a low h = go (cases_eq k i)
  where
    pick : k < i → (is_with sets v k ≡ true) ⊎ known k → (is_with more v k ≡ true) ⊎ still k
    pick before (inl noted) = inl (grows (k / 64 * 128 + v) (k % 64) noted)
    pick before (inr other) = inr (stays k before other)

    go : (k ≡ i) ⊎ (k ≢ i) → (is_with more v k ≡ true) ⊎ still k
    go (inr other) = pick (omega arith) (old k v a (omega arith) h)
    go (inl same) =
        let at = member_place scope v (ap (λ (xs : List ℕ). has xs v) (sym (is a)) ∙ ap (λ j. has (slice_index_or arcs j a).scope v) (sym same) ∙ h) in
        inl (ap (λ j. is_with more v j) same ∙ ap (λ u. is_with more u i) (sym at.2) ∙ there at.0 at.1)

-- only number i is with variables more, and these are of the scope
pub noted_only : (scope first : List ℕ) (i index : ℕ) (sets : List ℕ) (at m u : ℕ) → at ≡ i / 64 * 128 + u → u ≡ slice_index_or scope index 0 → u < 128 → index < length scope → at < length sets →
    ((y : ℕ) → has (ones_of m) y ≡ (has (ones_of (slice_index_or sets at 0)) y || (i % 64 == y))) →
    ((v k : ℕ) → v < 128 → is_with sets v k ≡ true → (is_with first v k ≡ true) ⊎ ((k ≡ i) × (has scope v ≡ true))) →
    (v k : ℕ) → v < 128 → is_with (slice_set sets at m) v k ≡ true → (is_with first v k ≡ true) ⊎ ((k ≡ i) × (has scope v ≡ true))
noted_only scope first i index sets at m u place var small inside low is old v k few h = go (set_only sets at m (i % 64) low is (k / 64 * 128 + v) (k % 64) h)
  where
    go : (is_with sets v k ≡ true) ⊎ ((k / 64 * 128 + v ≡ at) × (k % 64 ≡ i % 64)) → (is_with first v k ≡ true) ⊎ ((k ≡ i) × (has scope v ≡ true))
    go (inl before) = old v k few before
    go (inr here) =
        let at_is = here.0 in
        let bit_is = here.1 in
        let row : k / 64 ≡ i / 64 = omega arith in
        let same : v ≡ slice_index_or scope index 0 = omega arith in
        inr (omega arith, ap (has scope) same ∙ member_at scope index inside)

-- ---- briefs that say that two variables differ

-- a brief is written behind the first ones
pub apart_still : (briefs : List Brief) (i : ℕ) (new b : Brief) (k : ℕ) → k < i → IsApart (slice_index_or briefs k b) → IsApart (slice_index_or (slice_set briefs i new) k b)
apart_still briefs i new b k low is = subst IsApart (sym (get_or-set_other briefs i k new b (λ e. absurd (omega arith)))) is

-- one that says so is noted in no set
pub noted_apart : (arcs : List Arc) (briefs : List Brief) (sets more : List ℕ) (i : ℕ) (new : Brief) → i < length briefs → more ≡ sets → IsApart new →
    ((k v : ℕ) (a : Arc) (b : Brief) → k < i → has (slice_index_or arcs k a).scope v ≡ true → (is_with sets v k ≡ true) ⊎ IsApart (slice_index_or briefs k b)) →
    (k v : ℕ) (a : Arc) (b : Brief) → k < i + 1 → has (slice_index_or arcs k a).scope v ≡ true → (is_with more v k ≡ true) ⊎ IsApart (slice_index_or (slice_set briefs i new) k b)
noted_apart arcs briefs sets more i new room more_is is old k v a b low h = go (cases_eq k i)
  where
    pick : k < i → (is_with sets v k ≡ true) ⊎ IsApart (slice_index_or briefs k b) → (is_with more v k ≡ true) ⊎ IsApart (slice_index_or (slice_set briefs i new) k b)
    pick before (inl noted) = inl (ap (λ (xs : List ℕ). is_with xs v k) more_is ∙ noted)
    pick before (inr apart) = inr (apart_still briefs i new b k before apart)

    go : (k ≡ i) ⊎ (k ≢ i) → (is_with more v k ≡ true) ⊎ IsApart (slice_index_or (slice_set briefs i new) k b)
    go (inr other) = pick (omega arith) (old k v a b (omega arith) h)
    go (inl same) = inr (subst IsApart (sym (ap (λ (j : ℕ). slice_index_or (slice_set briefs i new) j b) same ∙ get_or-set_same briefs i new b room)) is)

-- another one is noted
pub noted_over : (arcs : List Arc) (briefs : List Brief) (scope sets noted more : List ℕ) (i : ℕ) (new : Brief) → more ≡ noted → ((a : Arc) → (slice_index_or arcs i a).scope ≡ scope) →
    ((q b : ℕ) → has (ones_of (slice_index_or sets q 0)) b ≡ true → has (ones_of (slice_index_or noted q 0)) b ≡ true) →
    ((j : ℕ) → j < length scope → is_with noted (slice_index_or scope j 0) i ≡ true) →
    ((k v : ℕ) (a : Arc) (b : Brief) → k < i → has (slice_index_or arcs k a).scope v ≡ true → (is_with sets v k ≡ true) ⊎ IsApart (slice_index_or briefs k b)) →
    (k v : ℕ) (a : Arc) (b : Brief) → k < i + 1 → has (slice_index_or arcs k a).scope v ≡ true → (is_with more v k ≡ true) ⊎ IsApart (slice_index_or (slice_set briefs i new) k b)
noted_over arcs briefs scope sets noted more i new more_is is grows there old k v a b low h =
    go (noted_next arcs i scope sets noted (λ j. IsApart (slice_index_or briefs j b)) (λ j. IsApart (slice_index_or (slice_set briefs i new) j b)) is grows there (apart_still briefs i new b) (λ j u c. old j u c b) k v a low h)
  where
    go : (is_with noted v k ≡ true) ⊎ IsApart (slice_index_or (slice_set briefs i new) k b) → (is_with more v k ≡ true) ⊎ IsApart (slice_index_or (slice_set briefs i new) k b)
    go (inl there) = inl (ap (λ (xs : List ℕ). is_with xs v k) more_is ∙ there)
    go (inr apart) = inr apart

-- what a brief that says nothing of the kind asks for
pub parted_other : (aparts : List ℕ) (b : Brief) → ((p : Pair) → b ≡ Apart p → ⊥) → IsParted aparts b
parted_other aparts (Two p) none = tt
parted_other aparts (Apart p) none = absurd (none p refl)
parted_other aparts (Other o) none = tt

parted_grows : (aparts more : List ℕ) (b : Brief) → ((q x : ℕ) → has (ones_of (slice_index_or aparts q 0)) x ≡ true → has (ones_of (slice_index_or more q 0)) x ≡ true) → IsParted aparts b → IsParted more b
parted_grows aparts more (Two p) grows is = tt
parted_grows aparts more (Apart p) grows is = (grows (p.second / 64 * 128 + p.first) (p.second % 64) is.0, grows (p.first / 64 * 128 + p.second) (p.first % 64) is.1)
parted_grows aparts more (Other o) grows is = tt

pub parted_next : (briefs : List Brief) (aparts more : List ℕ) (i : ℕ) (new : Brief) → i < length briefs →
    ((q x : ℕ) → has (ones_of (slice_index_or aparts q 0)) x ≡ true → has (ones_of (slice_index_or more q 0)) x ≡ true) → IsParted more new →
    ((k : ℕ) (b : Brief) → k < i → IsParted aparts (slice_index_or briefs k b)) → (k : ℕ) (b : Brief) → k < i + 1 → IsParted more (slice_index_or (slice_set briefs i new) k b)
parted_next briefs aparts more i new room grows is old k b low = go (cases_eq k i)
  where
    go : (k ≡ i) ⊎ (k ≢ i) → IsParted more (slice_index_or (slice_set briefs i new) k b)
    go (inl same) = subst (IsParted more) (sym (ap (λ (j : ℕ). slice_index_or (slice_set briefs i new) j b) same ∙ get_or-set_same briefs i new b room)) is
    go (inr other) = subst (IsParted more) (sym (get_or-set_other briefs i k new b other)) (parted_grows aparts more (slice_index_or briefs k b) grows (old k b (omega arith)))

-- the first briefs still say so
has_apart_still : (briefs : List Brief) (i : ℕ) (new : Brief) (v u : ℕ) → HasApart briefs i v u → HasApart (slice_set briefs i new) (i + 1) v u
has_apart_still briefs i new v u has_one = record {
  place = has_one.place;
  low = (let low = has_one.low in omega arith);
  is = λ b. subst (λ (c : Brief). IsApartAt c v u) (sym (get_or-set_other briefs i has_one.place new b (λ e. (let low = has_one.low in absurd (omega arith))))) (has_one.is b);
}

pub apart_over : (briefs : List Brief) (aparts : List ℕ) (i : ℕ) (new : Brief) → AreApartSoFar briefs aparts i → AreApartSoFar (slice_set briefs i new) aparts (i + 1)
apart_over briefs aparts i new old v u few h = has_apart_still briefs i new v u (old v u few h)

pub apart_next : (briefs : List Brief) (aparts more : List ℕ) (i : ℕ) (p : Pair) → i < length briefs →
    ((v u : ℕ) → v < 128 → is_with more v u ≡ true → (is_with aparts v u ≡ true) ⊎ AreBothOf p v u) → AreApartSoFar briefs aparts i → AreApartSoFar (slice_set briefs i (Apart p)) more (i + 1)
apart_next briefs aparts more i p room only old v u few h = go (only v u few h)
  where
    go : (is_with aparts v u ≡ true) ⊎ AreBothOf p v u → HasApart (slice_set briefs i (Apart p)) (i + 1) v u
    go (inl before) = has_apart_still briefs i (Apart p) v u (old v u few before)
    go (inr ends) = record { place = i; low = omega arith; is = λ b. subst (λ (c : Brief). IsApartAt c v u) (sym (get_or-set_same briefs i (Apart p) b room)) ends }

-- the two variables of a brief are known
pub first_known : (scope : List ℕ) (p : Pair) (n : ℕ) → scope ≡ p.first ∷ p.second ∷ [] → All (λ v. v < n) scope → p.first < n
first_known scope p n is known = subst (λ (v : ℕ). v < n) (ap (λ (xs : List ℕ). slice_index_or xs 0 0) is) (known 0 0 (let long = ap length is in omega arith))

pub second_known : (scope : List ℕ) (p : Pair) (n : ℕ) → scope ≡ p.first ∷ p.second ∷ [] → All (λ v. v < n) scope → p.second < n
second_known scope p n is known = subst (λ (v : ℕ). v < n) (ap (λ (xs : List ℕ). slice_index_or xs 1 0) is) (known 1 0 (let long = ap length is in omega arith))

-- no variable is with another one in words of zeros
pub none_with : (aparts : List ℕ) (n : ℕ) → aparts ≡ replicate n 0 → (v u : ℕ) → is_with aparts v u ≡ true → ⊥
none_with aparts n is v u h = both_ways _ (ap (λ (xs : List ℕ). is_with xs v u) is ∙ ap (λ m. has (ones_of m) (u % 64)) (zeros (u / 64 * 128 + v)) ∙ ap (λ xs. has xs (u % 64)) ones_of-zero) h
  where
    zeros : (i : ℕ) → ◌≡◌ {A = ℕ} (slice_index_or (replicate n 0) i 0) 0
    zeros i = go (cases_lt i n)
      where
        go : (i < n) ⊎ (n ≤ i) → ◌≡◌ {A = ℕ} (slice_index_or (replicate n 0) i 0) 0
        go (inl low) = get_or-replicate n i 0 0 low
        go (inr past) = get_or_past (replicate n 0) i 0 (let long = length-replicate {A = ℕ} n 0 in omega arith)

-- a condition is noted, or it is one of the first and says that two variables differ
pub noted_few : (briefs : List Brief) (sets : List ℕ) (k v : ℕ) (b : Brief) → k < length briefs → (is_with sets v k ≡ true) ⊎ IsApart (slice_index_or briefs k b) →
    (is_with sets v k ≡ true) ⊎ ((k < length briefs) × IsApart (slice_index_or briefs k b))
noted_few briefs sets k v b low (inl there) = inl there
noted_few briefs sets k v b low (inr apart) = inr (low, apart)
