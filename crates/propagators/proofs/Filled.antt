-- The masks of the family of the ranges, and families of a language.
use Rattle.propagators.proofs.Prelude.{◌≡◌, ℕ, zero, suc, ◌+◌, ◌-◌, ◌<◌, ◌≤◌, ◌^◌, Bool, true, false, not, ◌&&◌, List, [], ◌∷◌, length, map, take, drop, replicate, refl, ap, sym, ◌∙◌, arith, inl, inr, ◌⊎◌, length-drop, ◌==◌, ◌≢◌, nat_le, nat_lt, bit_and, slice_index_or, slice_set, All, range_with_len, bit_not, w64, length-set, and_parts, both_ways, cases_eq, cases_lt, eq-eqb, ne_eqb, lt-ltb, le-ltb, le-leb, lt-leb, ltb-true, ltb-false, length-replicate, length-map, length-take, get_or-map, get_or-take, get_or-drop, get_or_past, get_or-replicate, get_or-set_same, get_or-set_other, bit_at_above, fill_by_all, length-map-range_with_len, get_or-map-range_with_len, All-nil, All-cons, All-set, filter_agree_from, is_one, numbers, has, is_in, Language, variable_count, range_of, values_of, any_number, ones_of, Family, IsFamilyOf, filter_front, has-filter, has-ones_of, has_above}
use Rattle.propagators.specs.InsideDomains.{AreMasks}
use Rattle.propagators.proofs.Ones.{has-and_not}

-- ---- the values from one to another

-- whether a number is below another, by the numbers up to that
has-numbers : (n x : ℕ) → has (numbers n) x ≡ nat_lt x n
has-numbers n x = go (cases_lt x n)
  where
    past : (a k y : ℕ) → a + k ≤ y → has (range_with_len a k) y ≡ false
    past a zero y h = refl
    past a (suc k) y h = rw (ne_eqb a y (λ e. omega arith)) (past (a + 1) k y (omega arith))

    go : (x < n) ⊎ (n ≤ x) → has (numbers n) x ≡ nat_lt x n
    go (inl low) = any_number (λ y. y == x) n x low (eq-eqb x x refl) ∙ sym (lt-ltb x n low)
    go (inr high) = past 0 n x (omega arith) ∙ sym (le-ltb x n high)

abbrev pub is_between : ℕ → ℕ → ℕ → Bool
is_between first last x = nat_le first x && nat_le x last

between_by : (first last x : ℕ) → (nat_lt x (last + 1) && not (nat_lt x first)) ≡ is_between first last x
between_by first last x = go (cases_lt x first) (cases_lt x (last + 1))
  where
    go : (x < first) ⊎ (first ≤ x) → (x < last + 1) ⊎ (last + 1 ≤ x) → (nat_lt x (last + 1) && not (nat_lt x first)) ≡ is_between first last x
    go (inl below) (inl low) = rw (lt-ltb x first below, lt-ltb x (last + 1) low, lt-leb first x below) refl
    go (inl below) (inr high) = rw (lt-ltb x first below, le-ltb x (last + 1) high, lt-leb first x below) refl
    go (inr above) (inl low) = rw (le-ltb x first above, lt-ltb x (last + 1) low, le-leb first x above, le-leb x last (omega arith)) refl
    go (inr above) (inr high) = rw (le-ltb x (last + 1) high, le-leb first x above, lt-leb x last (omega arith)) refl

pub has-between : (first last more less : ℕ) → more < 2 ^ 64 → less < 2 ^ 64 → ones_of more ≡ numbers (last + 1) → ones_of less ≡ numbers first → (x : ℕ) → has (ones_of (bit_and more (bit_not w64 less))) x ≡ is_between first last x
has-between first last more less fits small up_to before x = has-and_not more less x fits small ∙ go (cases_lt x 64)
  where
    most : has (ones_of more) x ≡ nat_lt x (last + 1)
    most = ap (λ xs. has xs x) up_to ∙ has-numbers (last + 1) x

    go : (x < 64) ⊎ (64 ≤ x) → (has (ones_of more) x && not (is_one less x)) ≡ is_between first last x
    go (inl low) = (λ i. most i && not ((sym (has-ones_of less x low) ∙ ap (λ xs. has xs x) before ∙ has-numbers first x) i)) ∙ between_by first last x
    go (inr high) =
        let none : nat_lt x (last + 1) ≡ false = sym most ∙ has_above more x high in
        (λ i. (most ∙ none) i && not (is_one less x)) ∙ sym (rw (lt-leb x last (let far = ltb-false x (last + 1) none in omega arith)) (nothing (nat_le first x)))
      where
        nothing : (b : Bool) → (b && false) ≡ false
        nothing true = refl
        nothing false = refl

-- a mask of the values from the first of a variable's range to its last
pub values_mask : (l : Language) (v m : ℕ) → m < 2 ^ 64 → l.value_count ≤ 64 → (range_of l v).last < l.value_count → ((x : ℕ) → has (ones_of m) x ≡ is_in (range_of l v) x) → ones_of m ≡ values_of l v
unfolding ones_of
values_mask l v m fits few known is =
    filter_front (is_one m) 0 l.value_count 64 few (λ x high. bit x ∙ out x high)
    ∙ filter_agree_from (is_one m) (is_in (range_of l v)) 0 l.value_count (λ x low high. bit x)
  where
    out : (x : ℕ) → 0 + l.value_count ≤ x → is_in (range_of l v) x ≡ false
    out x high = rw (lt-leb x (range_of l v).last (omega (arith, known, high))) (nothing (nat_le (range_of l v).first x))
      where
        nothing : (b : Bool) → (b && false) ≡ false
        nothing true = refl
        nothing false = refl

    bit : (x : ℕ) → is_one m x ≡ is_in (range_of l v) x
    bit x = go (cases_lt x 64)
      where
        go : (x < 64) ⊎ (64 ≤ x) → is_one m x ≡ is_in (range_of l v) x
        go (inl low) = sym (has-ones_of m x low) ∙ is x
        go (inr high) = ap (λ b. b == 1) (bit_at_above m 64 x fits high) ∙ sym (out x (omega (arith, few, high)))

-- ---- a mask for each variable

all_same : (n m : ℕ) → m < 2 ^ 64 → All (λ k. k < 2 ^ 64) (replicate n m)
all_same zero m h = All-nil (λ k. k < 2 ^ 64)
all_same (suc n) m h = All-cons (λ k. k < 2 ^ 64) m (replicate n m) h (all_same n m h)

-- one for each of n
one_for_each : {X : Type 0} (x : X) (n : ℕ) → replicate n x ≡ map (λ v. x) (numbers n)
one_for_each x n = from 0 n
  where
    from : (a n : ℕ) → replicate n x ≡ map (λ v. x) (range_with_len a n)
    from a zero = refl
    from a (suc n) = ap (λ xs. x ∷ xs) (from (a + 1) n)

-- the masks of the variables below v are those of their values, and the others are 0
pub record AreFilled (l : Language) (v : ℕ) (masks : List ℕ) : Type 0 where
  pub long : length masks ≡ 128
  pub small : All (λ m. m < 2 ^ 64) masks
  pub done : (u : ℕ) → u < v → ones_of (slice_index_or masks u 0) ≡ values_of l u
  pub rest : (u : ℕ) → v ≤ u → slice_index_or masks u 0 ≡ 0

pub fill_begin : (l : Language) → AreFilled l 0 (replicate {A = ℕ} 128 0)
fill_begin l = record {
  long = length-replicate {A = ℕ} 128 0;
  small = all_same 128 0 (omega arith);
  done = λ u low. absurd (omega arith);
  rest = λ u low. none u (cases_lt u 128);
}
  where
    none : (u : ℕ) → (u < 128) ⊎ (128 ≤ u) → slice_index_or (replicate {A = ℕ} 128 0) u 0 ≡ 0
    none u (inl low) = get_or-replicate 128 u 0 0 low
    none u (inr high) = get_or_past (replicate {A = ℕ} 128 0) u 0 (let long = length-replicate {A = ℕ} 128 0 in omega arith)

pub fill_next : (l : Language) (v m : ℕ) (masks : List ℕ) → v < 128 → m < 2 ^ 64 → ones_of m ≡ values_of l v → AreFilled l v masks → AreFilled l (v + 1) (slice_set masks v m)
fill_next l v m masks low fits is old = record {
  long = length-set masks v m ∙ old.long;
  small = All-set (λ k. k < 2 ^ 64) masks v m fits old.small;
  done = λ u below. here u below (cases_eq u v);
  rest = λ u above. get_or-set_other masks v u m 0 (λ e. omega arith) ∙ old.rest u (omega arith);
}
  where
    here : (u : ℕ) → u < v + 1 → (u ≡ v) ⊎ (u ≢ v) → ones_of (slice_index_or (slice_set masks v m) u 0) ≡ values_of l u
    here u below (inl e) = ap (λ k. ones_of (slice_index_or (slice_set masks v m) k 0)) e ∙ ap ones_of (get_or-set_same masks v m 0 (let long = old.long in omega arith)) ∙ is ∙ ap (values_of l) (sym e)
    here u below (inr other) = ap ones_of (get_or-set_other masks v u m 0 other) ∙ old.done u (omega arith)

pub full_masks : (l : Language) (masks : List ℕ) (v n : ℕ) → n ≤ 128 → AreFilled l v masks → v ≡ n → AreMasks (record { sets = masks; size = n })
full_masks l masks v n few is end = record {
  fits = few;
  whole = is.long;
  past = fill_by_all (λ u. 0) (drop n masks) (128 - n) 0 (length-drop n masks ∙ ap (λ k. k - n) is.long) (λ u low. get_or-drop n masks u 0 ∙ is.rest (n + u) (omega arith)) ∙ sym (one_for_each 0 (128 - n));
  small = is.small;
}

pub full_seen : (l : Language) (masks : List ℕ) (v n : ℕ) → n ≤ 128 → AreFilled l v masks → v ≡ n → n ≡ variable_count l → map ones_of (take n masks) ≡ map (values_of l) (numbers (variable_count l))
full_seen l masks v n few is end count = fill_by_all (values_of l) (map ones_of (take n masks)) (variable_count l) [] (length-map (take n masks) ones_of ∙ long ∙ count) (λ u low.
    get_or-map ones_of (take n masks) u 0 [] (let size = long in omega arith)
    ∙ ap ones_of (get_or-take n masks u 0 (omega arith)) ∙ is.done u (omega arith))
  where
    long : length (take n masks) ≡ n
    long = (let size = is.long in omega (arith, length-take n masks))

-- ---- families of the language

-- a variable's value is a value of the language, in its range
pub value_there : (l : Language) (v x : ℕ) → has (values_of l v) x ≡ true → (x < l.value_count) × (is_in (range_of l v) x ≡ true)
value_there l v x h =
    let parts = and_parts (has (numbers l.value_count) x) _ (sym (has-filter (is_in (range_of l v)) (numbers l.value_count) x) ∙ h) in
    (ltb-true x l.value_count (sym (has-numbers l.value_count x) ∙ parts.0), parts.1)

pub full_family : (l : Language) → IsFamilyOf l (map (values_of l) (numbers (variable_count l)))
full_family l = record {
  size = length-map-range_with_len (values_of l) 0 (variable_count l);
  values = λ v x h. (there v x h).0;
  within = λ v x h. (there v x h).1;
}
  where
    there : (v x : ℕ) → has (slice_index_or (map (values_of l) (numbers (variable_count l))) v []) x ≡ true → (x < l.value_count) × (is_in (range_of l v) x ≡ true)
    there v x h = go (cases_lt v (variable_count l))
      where
        go : (v < variable_count l) ⊎ (variable_count l ≤ v) → (x < l.value_count) × (is_in (range_of l v) x ≡ true)
        go (inl low) = value_there l v x (ap (λ xs. has xs x) (sym (get_or-map-range_with_len (values_of l) 0 (variable_count l) v v [] low (omega arith))) ∙ h)
        go (inr high) = absurd (both_ways _ (ap (λ xs. has xs x) (get_or_past (map (values_of l) (numbers (variable_count l))) v [] (let long = length-map-range_with_len (values_of l) 0 (variable_count l) in omega arith))) h)

-- a set with fewer values
pub family_set : (l : Language) (f : Family) (v : ℕ) (xs : List ℕ) → v < length f → ((x : ℕ) → has xs x ≡ true → has (slice_index_or f v []) x ≡ true) → IsFamilyOf l f → IsFamilyOf l (slice_set f v xs)
family_set l f v xs low fewer is = record {
  size = length-set f v xs ∙ is.size;
  values = λ w x h. is.values w x (was w x h (cases_eq w v));
  within = λ w x h. is.within w x (was w x h (cases_eq w v));
}
  where
    was : (w x : ℕ) → has (slice_index_or (slice_set f v xs) w []) x ≡ true → (w ≡ v) ⊎ (w ≢ v) → has (slice_index_or f w []) x ≡ true
    was w x h (inl same) = ap (λ u. has (slice_index_or f u []) x) same ∙ fewer x (ap (λ ys. has ys x) (sym (get_or-set_same f v xs [] low)) ∙ ap (λ u. has (slice_index_or (slice_set f v xs) u []) x) (sym same) ∙ h)
    was w x h (inr other) = ap (λ ys. has ys x) (sym (get_or-set_other f v w xs [] other)) ∙ h
