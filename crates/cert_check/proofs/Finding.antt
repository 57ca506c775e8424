-- The first member of a list that passes a test.
use Rattle.cert_check.proofs.Prelude.{◌≡◌, ℕ, zero, suc, ◌+◌, ◌-◌, ◌*◌, ◌/◌, ◌%◌, ◌<◌, ◌≤◌, Bool, true, false, cond, List, [], ◌∷◌, length, take, drop, min, get_or, Some, None, refl, sym, ◌∙◌, ap, subst, arith, inl, inr, ◌⊎◌, All, position, nat_lt, slice_index_or, HoldsAt, position_or_len, range_with_len, get_or-take, get_or-drop, length-take, length-drop, take_all, take-add, position-Some, All-append, All-from_get_or, All-more, at_read, position_or_len_is, fails_before_first, length-range_with_len, get_or-range_with_len, lt-ltb, ltb-true, ltb-false, cases_lt, numbers, Candidate, Language, IsCandidate, candidates, number_of, numbered, candidate_at, all_below}
use Rattle.std.proofs.Math.Nat.{mul-le-mul_left}
use Rattle.std.proofs.lemmas.Nat.{div-add-mod'}

position_from : (n i : ℕ) (b : Bool) → nat_lt i n ≡ b → (k : ℕ) → k ≡ i → cond (nat_lt k n) (Some k) None ≡ cond b (Some i) None
position_from n i b e k same = (λ j. cond (nat_lt (same j) n) (Some (same j)) None) ∙ ap (λ b. cond b (Some i) None) e

not_below : (n : ℕ) → nat_lt n n ≡ false
not_below n = go (nat_lt n n) refl
  where
    go : (b : Bool) → nat_lt n n ≡ b → nat_lt n n ≡ false
    go true e = absurd (let h = ltb-true n n e in omega (arith, h))
    go false e = e

-- it is the member at i, where those before fail
pub found_at : {X : Type 0} (p : X → Bool) (xs : List X) (i : ℕ) → i < length xs → HoldsAt (λ x. p x ≡ true) xs i → All (λ x. p x ≡ false) (take i xs) → position p xs ≡ Some i
found_at p [] i low here before = absurd (omega arith)
found_at p (x ∷ xs) i low here before = position_from (length (x ∷ xs)) i true (lt-ltb i (length (x ∷ xs)) low) (position_or_len p (x ∷ xs))
    (position_or_len_is p (x ∷ xs) i x (omega arith) (λ k h. ap p (sym (get_or-take i (x ∷ xs) k x h)) ∙ before k x (let size = length-take i (x ∷ xs) in omega arith)) (λ _. here x))

-- there is none where all fail
pub none_found : {X : Type 0} (p : X → Bool) (xs : List X) → All (λ x. p x ≡ false) xs → position p xs ≡ None
none_found p [] h = refl
none_found p (x ∷ xs) h = position_from (length (x ∷ xs)) (length (x ∷ xs)) false (not_below (length (x ∷ xs))) (position_or_len p (x ∷ xs))
    (position_or_len_is p (x ∷ xs) (length (x ∷ xs)) x (omega arith) (λ k low. h k x low) (λ low. absurd (omega arith)))

-- all fail where there is none
pub all_fail : {X : Type 0} (p : X → Bool) (xs : List X) → position p xs ≡ None → All (λ x. p x ≡ false) xs
all_fail p xs h = λ k d low. go (nat_lt (position_or_len p xs) (length xs)) refl h k d low
  where
    go : (b : Bool) → nat_lt (position_or_len p xs) (length xs) ≡ b → cond b (Some (position_or_len p xs)) None ≡ None → (k : ℕ) (d : _) → k < length xs → p (slice_index_or xs k d) ≡ false
    go true e h k d low = absurd (let no : ⊥ = cc in no)
    go false e h k d low = fails_before_first p xs k d (let past = ltb-false _ _ e in omega (arith, past, low))

-- ---- as a loop over a list goes on

-- within a list the default doesn't matter
pub within : {X : Type 0} (xs : List X) (i : ℕ) (d e : X) → i < length xs → get_or xs i d ≡ get_or xs i e
within [] i d e low = absurd (omega arith)
within (x ∷ xs) zero d e low = refl
within (x ∷ xs) (suc i) d e low = within xs i d e (omega arith)

pub fails_more : {X : Type 0} (p : X → Bool) (xs : List X) (i : ℕ) (x : X) → i < length xs → x ≡ get_or xs i x → p x ≡ false → All (λ x. p x ≡ false) (take i xs) → All (λ x. p x ≡ false) (take (i + 1) xs)
fails_more p xs i x low is fails before = All-more (λ x. p x ≡ false) xs i x low before (subst (λ y. p y ≡ false) is fails)

pub found_read : {X : Type 0} (p : X → Bool) (xs : List X) (i : ℕ) (x : X) → i < length xs → x ≡ get_or xs i x → p x ≡ true → All (λ x. p x ≡ false) (take i xs) → position p xs ≡ Some i
found_read p xs i x low is passes before = found_at p xs i low (at_read xs (λ x. p x ≡ true) i x low is passes) before

pub none_through : {X : Type 0} (p : X → Bool) (xs : List X) (i : ℕ) → length xs ≤ i → All (λ x. p x ≡ false) (take i xs) → position p xs ≡ None
none_through p xs i all h = none_found p xs (subst (All (λ x. p x ≡ false)) (take_all i xs all) h)

-- the candidate of a number stands there
pub candidate_read : (l : Language) (c : Candidate) (number : ℕ) → IsCandidate l c → number_of l c ≡ number → c ≡ get_or (candidates l) number c
candidate_read l c number is same = sym (ap (λ k. get_or (candidates l) k c) (sym same) ∙ (numbered l).there c c is)

-- ---- numbers below an end

all_below_as : (p : ℕ → Bool) (a n i : ℕ) → ((k : ℕ) → k < a + i → p k ≡ false) → i ≤ n → All (λ k. p k ≡ false) (take i (range_with_len a n))
all_below_as p a n i h few = λ k d low.
    let size = length-take i (range_with_len a n) in
    let long = length-range_with_len a n in
    subst (λ m. p m ≡ false) (sym (get_or-take i (range_with_len a n) k d (omega arith) ∙ get_or-range_with_len a n k d (omega arith))) (h (a + k) (omega arith))

pub number_found : (p : ℕ → Bool) (n i : ℕ) → i < n → p i ≡ true → ((k : ℕ) → k < i → p k ≡ false) → position p (numbers n) ≡ Some i
number_found p n i low here before =
    let long = length-range_with_len 0 n in
    let there : get_or (numbers n) i i ≡ i = get_or-range_with_len 0 n i i low ∙ (let e : 0 + i ≡ i = omega arith in e) in
    found_read p (numbers n) i i (omega arith) (sym there) here (all_below_as p 0 n i (λ k h. before k (omega arith)) (omega arith))

pub no_number : (p : ℕ → Bool) (n : ℕ) → ((k : ℕ) → k < n → p k ≡ false) → position p (numbers n) ≡ None
no_number p n h = none_found p (numbers n) (all_below (λ k. p k ≡ false) n h)

-- ---- chunk by chunk

pub chunk_none : {X : Type 0} (p : X → Bool) (xs : List X) (m size : ℕ) → All (λ x. p x ≡ false) (take m xs) → position p (take size (drop m xs)) ≡ None → All (λ x. p x ≡ false) (take (m + size) xs)
chunk_none p xs m size before none = subst (All (λ x. p x ≡ false)) (sym (take-add m size xs)) (All-append (λ x. p x ≡ false) (take m xs) (take size (drop m xs)) before (all_fail p (take size (drop m xs)) none))

pub chunk_some : {X : Type 0} (p : X → Bool) (xs : List X) (m size i : ℕ) → m ≤ length xs → All (λ x. p x ≡ false) (take m xs) → position p (take size (drop m xs)) ≡ Some i → (i < size) × (m + i < length xs) × (position p xs ≡ Some (m + i))
chunk_some p [] m size i few before some = absurd (go m some)
  where
    go : (m : ℕ) → position p (take size (drop m [])) ≡ Some i → ⊥
    go zero h = nothing size h
      where
        nothing : (n : ℕ) → position p (take n []) ≡ Some i → ⊥
        nothing zero h = cc
        nothing (suc n) h = cc
    go (suc m) h = nothing size h
      where
        nothing : (n : ℕ) → position p (take n []) ≡ Some i → ⊥
        nothing zero h = cc
        nothing (suc n) h = cc
chunk_some p (x ∷ rest) m size i few before some =
    let xs : List _ = x ∷ rest in
    let chunk : List _ = take size (drop m xs) in
    let found = position-Some p chunk i x some in
    let part : length chunk ≡ min size (length (drop m xs)) = length-take size (drop m xs) in
    let left : length (drop m xs) ≡ length xs - m = length-drop m xs in
    let low : i < size = (let h = found.0 in omega (arith, h, part)) in
    let inside : m + i < length xs = (let h = found.0 in omega (arith, h, part, left)) in
    let at : (k : ℕ) → k < size → get_or chunk k x ≡ get_or xs (m + k) x = (λ k h. get_or-take size (drop m xs) k x h ∙ get_or-drop m xs k x) in (
      low,
      inside,
      found_read p xs (m + i) (get_or xs (m + i) x) inside (within xs (m + i) x (get_or xs (m + i) x) inside)
          (ap p (sym (at i low)) ∙ found.1)
          (All-from_get_or (λ y. p y ≡ false) (take (m + i) xs) x (λ k h. go k (cases_lt k m) (let size = length-take (m + i) xs in omega (arith, h, size)) at)),
    )
  where
    go : (k : ℕ) → (k < m) ⊎ (m ≤ k) → k < m + i → ((k : ℕ) → k < size → get_or (take size (drop m (x ∷ rest))) k x ≡ get_or (x ∷ rest) (m + k) x) → p (get_or (take (m + i) (x ∷ rest)) k x) ≡ false
    go k (inl low) h at = ap p (get_or-take (m + i) (x ∷ rest) k x h ∙ sym (get_or-take m (x ∷ rest) k x low)) ∙ before k x (let size = length-take m (x ∷ rest) in omega (arith, size, low, few))
    go k (inr high) h at =
        let found = position-Some p (take size (drop m (x ∷ rest))) i x some in
        let part : length (take size (drop m (x ∷ rest))) ≡ min size (length (drop m (x ∷ rest))) = length-take size (drop m (x ∷ rest)) in
        let low : k - m < size = (let g = found.0 in omega (arith, g, part, h, high)) in
        let back : m + (k - m) ≡ k = omega (arith, high) in
        ap p (get_or-take (m + i) (x ∷ rest) k x h ∙ ap (λ j. get_or (x ∷ rest) j x) (sym back) ∙ sym (at (k - m) low)) ∙ found.2 (k - m) (omega (arith, h, high))

-- the chunks reach the end
pub chunks_reach : (size n long : ℕ) → 0 < size → n ≡ long / size + min 1 (long % size) → long ≤ n * size
chunks_reach size n long some count = go (long % size) refl
  where
    whole : long / size * size + long % size ≡ long
    whole = div-add-mod' long size

    go : (r : ℕ) → long % size ≡ r → long ≤ n * size
    go zero e = let same : n ≡ long / size = omega (arith, count, e) in subst (λ k. long ≤ k * size) (sym same) (omega (arith, whole, e))
    go (suc r) e = let same : n ≡ long / size + 1 = omega (arith, count, e) in subst (λ k. long ≤ k * size) (sym same) (omega (arith, whole, e, some))

pub candidate_is : (l : Language) (c : Candidate) (number : ℕ) → number < length (candidates l) → IsCandidate l c → number_of l c ≡ number → candidate_at l number ≡ c
candidate_is l c number low is same = within (candidates l) number (record { scope = 0; rel = 0 }) c low ∙ sym (candidate_read l c number is same)

-- a chunk begins within the list
pub chunk_begins : (size n long : ℕ) → n < long / size + min 1 (long % size) → n * size ≤ long
chunk_begins size n long low =
    let whole : long / size * size + long % size ≡ long = div-add-mod' long size in
    let few : n ≤ long / size = omega (arith, low) in
    omega (arith, whole, mul-le-mul_left size few)
