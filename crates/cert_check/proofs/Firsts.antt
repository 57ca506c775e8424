-- The first item of a row of numbers that is violated, where each that is stands in the row.
use Rattle.cert_check.proofs.Prelude.{◌≡◌, ℕ, zero, suc, ◌+◌, ◌<◌, ◌≤◌, Bool, true, false, cond, List, [], ◌∷◌, ◌++◌, length, map, Option, Some, None, Vec, Global, refl, sym, ◌∙◌, ap, subst, arith, inl, inr, ◌⊎◌, find, position, slice_get, slice_index_or, option_map_or, filter, range_with_len, both_ways, cases_eq, false_from_ne_true, get_or-take, length-take, map-append, get_or-map-range_with_len, length-map-range_with_len, map-range_with_len_more, slice_get-get_or, slice_get_within, get_or_from_slice_get, All-filter, all_below, numbers, Assignment, Candidate, Language, variable_count, violates, AreOn, by_variable, has_variable, items_on, violates_item}
use Rattle.cert_check.proofs.Finding.{found_read, none_found}

-- what a test refuses may be left out, where nothing that is looked for is refused
find_kept : {X : Type 0} (p q : X → Bool) (xs : List X) → ((x : X) → p x ≡ true → q x ≡ true) → find p (filter q xs) ≡ find p xs
find_kept p q [] h = refl
find_kept p q (x ∷ xs) h = go (p x) (q x) refl refl (find_kept p q xs h)
  where
    go : (a b : Bool) → p x ≡ a → q x ≡ b → find p (filter q xs) ≡ find p xs → find p (cond b (x ∷ filter q xs) (filter q xs)) ≡ cond a (Some x) (find p xs)
    go true true found kept rest = ap (λ a. cond a (Some x) (find p (filter q xs))) found
    go false true fails kept rest = ap (λ a. cond a (Some x) (find p (filter q xs))) fails ∙ rest
    go true false found left rest = absurd (both_ways _ left (h x found))
    go false false fails left rest = rest

-- ---- a run of numbers

none_before : (g : ℕ → Bool) (a n : ℕ) → find g (range_with_len a n) ≡ None → (k : ℕ) → a ≤ k → k < a + n → g k ≡ false
none_before g a zero h k from to = absurd (omega (arith, from, to))
none_before g a (suc n) h k from to = go (g a) refl h (none_before g (a + 1) n)
  where
    at : g a ≡ false → (a ≡ k) ⊎ (a ≡ k → ⊥) → (a + 1 ≤ k → k < a + 1 + n → g k ≡ false) → g k ≡ false
    at is (inl same) rest = ap g (sym same) ∙ is
    at is (inr differ) rest = rest (omega (arith, from, differ)) (omega (arith, to))

    go : (b : Bool) → g a ≡ b → cond b (Some a) (find g (range_with_len (a + 1) n)) ≡ None → (find g (range_with_len (a + 1) n) ≡ None → (k : ℕ) → a + 1 ≤ k → k < a + 1 + n → g k ≡ false) → g k ≡ false
    go true is none rest = absurd (let no : ⊥ = cc in no)
    go false is none rest = at is (cases_eq a k) (rest none k)

-- a number that is found
record IsFound (g : ℕ → Bool) (a n i : ℕ) : Type 0 where
  from : a ≤ i
  to : i < a + n
  passes : g i ≡ true
  before : (k : ℕ) → a ≤ k → k < i → g k ≡ false

found_in : (g : ℕ → Bool) (a n i : ℕ) → find g (range_with_len a n) ≡ Some i → IsFound g a n i
found_in g a zero i h = absurd (let no : ⊥ = cc in no)
found_in g a (suc n) i h = go (g a) refl h (found_in g (a + 1) n i)
  where
    go : (b : Bool) → g a ≡ b → cond b (Some a) (find g (range_with_len (a + 1) n)) ≡ Some i → (find g (range_with_len (a + 1) n) ≡ Some i → IsFound g (a + 1) n i) → IsFound g a (suc n) i
    go true is some rest =
        let same : a ≡ i = cc in
        record { from = omega (arith, same); to = omega (arith, same); passes = ap g (sym same) ∙ is; before = λ k low high. absurd (omega (arith, same, low, high)) }
    go false is some rest =
        let found = rest some in
        let from = found.from in
        let to = found.to in
        record {
          from = omega (arith, from);
          to = omega (arith, to);
          passes = found.passes;
          before = λ k low high. at k low high found (cases_eq a k);
        }
      where
        at : (k : ℕ) → a ≤ k → k < i → IsFound g (a + 1) n i → (a ≡ k) ⊎ (a ≡ k → ⊥) → g k ≡ false
        at k low high found (inl same) = ap g (sym same) ∙ is
        at k low high found (inr differ) = found.before k (omega (arith, low, differ)) high

-- ---- the place of a member is its number

-- whether the member of this number passes
abbrev passes_at : {X : Type 0} → (X → Bool) → List X → ℕ → Bool
passes_at p xs i = option_map_or p (slice_get xs i) false

read_at : {X : Type 0} (p : X → Bool) (xs : List X) (k : ℕ) (d : X) → k < length xs → p (slice_index_or xs k d) ≡ passes_at p xs k
read_at p xs k d low = sym (ap (λ o. option_map_or p o false) (slice_get-get_or xs k d low))

position_is : {X : Type 0} (p : X → Bool) (xs : List X) (o : Option ℕ) → find (passes_at p xs) (numbers (length xs)) ≡ o → o ≡ position p xs
position_is p xs None h = sym (none_found p xs (λ k d low. read_at p xs k d low ∙ none_before (passes_at p xs) 0 (length xs) h k (omega arith) (omega (arith, low))))
position_is p xs (Some i) h = go (slice_get xs i) refl (found_in (passes_at p xs) 0 (length xs) i h)
  where
    go : (o : Option _) → slice_get xs i ≡ o → IsFound (passes_at p xs) 0 (length xs) i → Some i ≡ position p xs
    go None is found = absurd (both_ways _ (ap (λ o. option_map_or p o false) is) found.passes)
    go (Some x) is found =
        let low : i < length xs = slice_get_within xs i x is in
        sym (found_read p xs i x low (sym (get_or_from_slice_get xs i x x is)) (sym (ap (λ o. option_map_or p o false) is) ∙ found.passes)
        (λ k d under.
        let size = length-take i xs in
        let small : k < i = omega (arith, under, size) in
        ap p (get_or-take i xs k d small) ∙ read_at p xs k d (omega (arith, small, low)) ∙ found.before k (omega arith) small))

-- ---- items

abbrev items_of : Vec ℕ Global → List ℕ
items_of row = row.items

-- a row more
pub rows_more : (f : ℕ → List ℕ) (rows new : List (Vec ℕ Global)) (row : Vec ℕ Global) (v : ℕ) → new ≡ rows ++ row ∷ [] → row.items ≡ f v → map items_of rows ≡ map f (numbers v) → map items_of new ≡ map f (numbers (v + 1))
rows_more f rows new row v put is before =
    ap (map items_of) put ∙ map-append items_of rows (row ∷ []) ∙ (λ i. before i ++ is i ∷ []) ∙ sym (map-range_with_len_more f 0 v v (let e : 0 + v ≡ v = omega arith in e))

-- the row of a variable
pub row_of : (l : Language) (network : List Candidate) (rows : List (List ℕ)) (row : List ℕ) (v : ℕ) → rows ≡ by_variable l network → v < variable_count l → row ≡ slice_index_or rows v [] → row ≡ items_on l network v
row_of l network rows row v all low is = is ∙ ap (λ (rs : List (List ℕ)). slice_index_or rs v []) all ∙ get_or-map-range_with_len (items_on l network) 0 (variable_count l) v v [] low (let e : 0 + v ≡ v = omega arith in e)

pub row_there : (l : Language) (network : List Candidate) (rows : List (List ℕ)) (v : ℕ) → rows ≡ by_variable l network → v < variable_count l → v < length rows
row_there l network rows v all low = let long : length rows ≡ variable_count l = ap length all ∙ length-map-range_with_len (items_on l network) 0 (variable_count l) in omega (arith, low, long)

pub first_in_row : (l : Language) (network : List Candidate) (e : Assignment) (v : ℕ) (row : List ℕ) → AreOn l network v e → row ≡ items_on l network v → find (violates_item l network e) row ≡ position (λ d. violates l d e) network
first_in_row l network e v row on is =
    ap (find (violates_item l network e)) is
    ∙ find_kept (violates_item l network e) (has_variable l network v) (numbers (length network)) on
    ∙ position_is (λ d. violates l d e) network (find (violates_item l network e) (numbers (length network))) refl

-- a number of the row is an item's
pub item_known : (l : Language) (network : List Candidate) (v : ℕ) (row : List ℕ) (k : ℕ) → row ≡ items_on l network v → k < length row → slice_index_or row k 0 < length network
item_known l network v row k is low =
    subst (λ (r : List ℕ). slice_index_or r k 0 < length network) (sym is)
    (All-filter (has_variable l network v) (λ i. i < length network) (numbers (length network)) (all_below (λ i. i < length network) (length network) (λ i below. below)) k 0 (omega (arith, low, ap length is)))
