-- Conditions that take nothing away while their two variables have more values than they reject.
use Rattle.propagators.proofs.Prelude.{◌≡◌, ℕ, zero, suc, ◌+◌, ◌<◌, ◌≤◌, Bool, true, false, cond, ◌&&◌, ◌||◌, not, List, [], ◌∷◌, length, take, refl, sym, ◌∙◌, ap, subst, arith, inl, inr, ◌⊎◌, lit≤, ◌==◌, ◌≢◌, slice_index_or, All, filter, range_with_len, list_any, list_all, bit_at, take_more, take_all, All-head, All-tail, All-push, and_parts, and_from, or_right, or_cases, both_ways, not-true, cases_eq, eq-eqb, eqb-true, numbers, has, set_where, minus, is_within, IsSet, has-set_where, filter_agree_from, ones_of, Family, Arc, is_wanted, sets_on, is_consistent, IsThrough, AreBelow, rejected_of, PairBounds, HasTwo, HasMore, IsBounded, filter_front, canonical, rises_filter, ones_of-passing, has-ones_of}
use Rattle.propagators.proofs.Pruned.{consistent, has_head}
use Rattle.propagators.proofs.Replacing.{through_supported}

-- ---- one member, or two

member_of : (xs : List ℕ) → (xs ≡ [] → ⊥) → (x : ℕ) × (has xs x ≡ true)
member_of [] h = absurd (h refl)
member_of (x ∷ xs) h = (x, has_head x xs)

-- a member, and one that is left without it
pub two_members : (xs rest : List ℕ) (x : ℕ) → has xs x ≡ true → ((y : ℕ) → has rest y ≡ (has xs y && not (x == y))) → (rest ≡ [] → ⊥) → HasTwo xs
two_members xs rest x there goes some =
    let other = member_of rest some in
    let parts = and_parts (has xs other.0) (not (x == other.0)) (sym (goes other.0) ∙ other.1) in
    record { first = x; second = other.0; there = there; also = parts.0; apart = λ e. both_ways _ (not-true _ parts.1) (eq-eqb x other.0 e) }

-- nothing is left without the one member
pub one_member : (xs rest : List ℕ) (x : ℕ) → ((y : ℕ) → has rest y ≡ (has xs y && not (x == y))) → rest ≡ [] → (y z : ℕ) → has xs y ≡ true → has xs z ≡ true → y ≡ z
one_member xs rest x goes none y z at_y at_z = sym (is y at_y) ∙ is z at_z
  where
    is : (w : ℕ) → has xs w ≡ true → x ≡ w
    is w at = go (x == w) refl (sym (goes w) ∙ ap (λ ys. has ys w) none)
      where
        go : (b : Bool) → (x == w) ≡ b → (has xs w && not (x == w)) ≡ false → x ≡ w
        go true same lost = eqb-true x w same
        go false other lost = absurd (both_ways _ lost (and_from _ _ at (ap not other)))

pub two_long : (xs : List ℕ) → HasTwo xs → 1 < length xs
two_long [] is = absurd (both_ways _ refl is.there)
two_long (x ∷ []) is = absurd (is.apart (sym (one is.first is.there) ∙ one is.second is.also))
  where
    one : (y : ℕ) → has (x ∷ []) y ≡ true → x ≡ y
    one y h = go (or_cases (x == y) false h)
      where
        go : ((x == y) ≡ true) ⊎ (false ≡ true) → x ≡ y
        go (inl same) = eqb-true x y same
        go (inr never) = absurd (both_ways _ refl never)
two_long (x ∷ y ∷ xs) is = omega arith

pub one_long : (xs : List ℕ) → IsSet xs → ((y z : ℕ) → has xs y ≡ true → has xs z ≡ true → y ≡ z) → length xs ≤ 1
one_long [] set one = omega arith
one_long (x ∷ []) set one = omega arith
one_long (x ∷ y ∷ xs) set one = absurd (
    let same : x ≡ y = one x y (has_head x (y ∷ xs)) (or_right _ _ (has_head y xs)) in
    let rises : x + 1 ≤ y = set.2.0 in
    omega arith)

-- ---- more values than are rejected

-- a member that passes, or none
search_in : (q : ℕ → Bool) (xs : List ℕ) → ((x : ℕ) × (has xs x ≡ true) × (q x ≡ true)) ⊎ ((x : ℕ) → has xs x ≡ true → q x ≡ false)
search_in q [] = inr (λ x h. absurd (both_ways _ refl h))
search_in q (x ∷ xs) = go (q x) refl (search_in q xs)
  where
    go : (b : Bool) → q x ≡ b → ((y : ℕ) × (has xs y ≡ true) × (q y ≡ true)) ⊎ ((y : ℕ) → has xs y ≡ true → q y ≡ false) → ((y : ℕ) × (has (x ∷ xs) y ≡ true) × (q y ≡ true)) ⊎ ((y : ℕ) → has (x ∷ xs) y ≡ true → q y ≡ false)
    go true at rest = inl (x, has_head x xs, at)
    go false at (inl found) = inl (found.0, or_right _ _ found.1, found.2)
    go false at (inr none) = inr (λ y h. pick y (or_cases (x == y) (has xs y) h))
      where
        pick : (y : ℕ) → ((x == y) ≡ true) ⊎ (has xs y ≡ true) → q y ≡ false
        pick y (inl same) = ap q (sym (eqb-true x y same)) ∙ at
        pick y (inr later) = none y later

-- a stronger test keeps no more
fewer_kept : (p q : ℕ → Bool) (a n : ℕ) → ((x : ℕ) → p x ≡ true → q x ≡ true) → length (filter p (range_with_len a n)) ≤ length (filter q (range_with_len a n))
fewer_kept p q a zero h = omega arith
fewer_kept p q a (suc n) h = go (p a) (q a) refl refl (fewer_kept p q (a + 1) n h)
  where
    go : (b c : Bool) → p a ≡ b → q a ≡ c → length (filter p (range_with_len (a + 1) n)) ≤ length (filter q (range_with_len (a + 1) n)) →
        length (cond b (a ∷ filter p (range_with_len (a + 1) n)) (filter p (range_with_len (a + 1) n))) ≤ length (cond c (a ∷ filter q (range_with_len (a + 1) n)) (filter q (range_with_len (a + 1) n)))
    go true true e f rest = omega arith
    go true false e f rest = absurd (both_ways _ f (h a e))
    go false true e f rest = omega arith
    go false false e f rest = rest

-- a set of numbers below d, by its members
set_below : (d : ℕ) (xs : List ℕ) → d ≤ 128 → IsSet xs → AreBelow d xs → filter (has xs) (numbers d) ≡ xs
unfolding set_where
set_below d xs few set below = sym (filter_front (has xs) 0 d 128 few (λ v high. out v high (has xs v) refl)) ∙ canonical xs set
  where
    out : (v : ℕ) → 0 + d ≤ v → (b : Bool) → has xs v ≡ b → b ≡ false
    out v high false e = refl
    out v high true e = absurd (let low = below v e in omega arith)

-- of more values than are rejected one is accepted
pub one_accepted : (d k : ℕ) (q : ℕ → Bool) (xs : List ℕ) → d ≤ 128 → HasMore k xs → AreBelow d xs → rejected_of d q ≤ k → (x : ℕ) × (has xs x ≡ true) × (q x ≡ true)
one_accepted d k q xs few more below bound = go (search_in q xs)
  where
    go : ((x : ℕ) × (has xs x ≡ true) × (q x ≡ true)) ⊎ ((x : ℕ) → has xs x ≡ true → q x ≡ false) → (x : ℕ) × (has xs x ≡ true) × (q x ≡ true)
    go (inl found) = found
    go (inr none) = absurd (
        let long : length (filter (has xs) (numbers d)) ≡ length xs = ap length (set_below d xs few more.set below) in
        let fewer : length (filter (has xs) (numbers d)) ≤ length (filter (λ x. not (q x)) (numbers d)) = fewer_kept (has xs) (λ x. not (q x)) 0 d (λ x h. ap not (none x h)) in
        let many = more.more in
        omega arith)

pub more_less : (j k : ℕ) (xs : List ℕ) → j ≤ k → HasMore k xs → HasMore j xs
more_less j k xs le is = record { set = is.set; more = (let more = is.more in omega arith); low = (let low = is.low in omega arith) }

module _ (d : ℕ) (accepted : List ℕ → Bool) (b : PairBounds) (few : d ≤ 128) (bounded : IsBounded d accepted b) where
  -- a value of the first variable goes with one of many values of the second
  pub in_row : (k : ℕ) (xs : List ℕ) (x : ℕ) → x < d → AreBelow d xs → HasMore k xs → b.second ≤ k → (y : ℕ) × (has xs y ≡ true) × (accepted (x ∷ y ∷ []) ≡ true)
  in_row k xs x low below more le = one_accepted d b.second (λ y. accepted (x ∷ y ∷ [])) xs few (more_less b.second k xs le more) below (bounded.second x low)

  pub in_column : (k : ℕ) (xs : List ℕ) (y : ℕ) → y < d → AreBelow d xs → HasMore k xs → b.first ≤ k → (x : ℕ) × (has xs x ≡ true) × (accepted (x ∷ y ∷ []) ≡ true)
  in_column k xs y low below more le = one_accepted d b.first (λ x. accepted (x ∷ y ∷ [])) xs few (more_less b.first k xs le more) below (bounded.first y low)

pub bounded_consistent : (d : ℕ) (a : Arc) (f : Family) (b : PairBounds) → d ≤ 128 → IsBounded d a.accepted b → length a.scope ≡ 2 → ((v : ℕ) → AreBelow d (slice_index_or f v [])) →
    HasMore b.first (slice_index_or f (slice_index_or a.scope 0 0) []) → HasMore b.second (slice_index_or f (slice_index_or a.scope 1 0) []) → is_consistent f a.scope a.accepted ≡ true
bounded_consistent d a f b few bounded long below first second = consistent a f (record { at = λ i x low here. through_supported (sets_on f a.scope) a.accepted i x (at a.scope long first second i x low here) })
  where
    at : (scope : List ℕ) → length scope ≡ 2 → HasMore b.first (slice_index_or f (slice_index_or scope 0 0) []) → HasMore b.second (slice_index_or f (slice_index_or scope 1 0) []) →
        (i x : ℕ) → i < length scope → has (slice_index_or f (slice_index_or scope i 0) []) x ≡ true → IsThrough (sets_on f scope) a.accepted i x
    at [] long one two i x low here = absurd (omega arith)
    at (u ∷ []) long one two i x low here = absurd (omega arith)
    at (u ∷ v ∷ []) long one two zero x low here =
        let other = in_row d a.accepted b few bounded b.second (slice_index_or f v []) x (below u x here) (below v) two (omega arith) in
        record { tuple = x ∷ other.0 ∷ []; within = (here, (other.1, tt)); at = refl; is = other.2 }
    at (u ∷ v ∷ []) long one two (suc zero) x low here =
        let other = in_column d a.accepted b few bounded b.first (slice_index_or f u []) x (below v x here) (below u) one (omega arith) in
        record { tuple = other.0 ∷ x ∷ []; within = (other.1, (here, tt)); at = refl; is = other.2 }
    at (u ∷ v ∷ []) long one two (suc (suc i)) x low here = absurd (omega arith)
    at (u ∷ v ∷ w ∷ scope) long one two i x low here = absurd (omega arith)

-- ---- untouched scopes

pub untouched : (scope touched rest : List ℕ) → All (λ v. v < 128) scope → rest ≡ minus (numbers 128) touched → is_within scope rest ≡ true → list_any (has touched) scope ≡ false
untouched [] touched rest small is h = refl
untouched (v ∷ scope) touched rest small is h =
    let parts = and_parts (has rest v) (list_all (has rest) scope) h in
    let here = and_parts (has (numbers 128) v) (not (has touched v)) (sym (has-set_where (λ w. has (numbers 128) w && not (has touched w)) v (All-head (λ v. v < 128) v scope small)) ∙ ap (λ xs. has xs v) (sym is) ∙ parts.0) in
    (λ i. not-true _ here.1 i || untouched scope touched rest (All-tail (λ v. v < 128) v scope small) is parts.1 i)

-- ---- lists, as loops go over them

pub all_more : (P : ℕ → Type 0) (xs : List ℕ) (i d : ℕ) → i < length xs → All P (take i xs) → P (slice_index_or xs i d) → All P (take (i + 1) xs)
all_more P xs i d low all here = subst (All P) (sym (take_more xs i d low)) (All-push P (take i xs) (slice_index_or xs i d) all here)

pub all_taken : (P : ℕ → Type 0) (xs : List ℕ) (i : ℕ) → length xs ≤ i → All P (take i xs) → All P xs
all_taken P xs i all = subst (All P) (take_all i xs all)

-- ---- what a mask rejects

wanted_not : (holding b : Bool) → is_wanted (not holding) b ≡ not (is_wanted holding b)
wanted_not true b = refl
wanted_not false b = sym (twice b)
  where
    twice : (b : Bool) → not (not b) ≡ b
    twice true = refl
    twice false = refl

-- how many of the first d values don't pass a row
pub row_rejects : (d all rejected row : ℕ) (holding : Bool) → ones_of all ≡ numbers d → ((y : ℕ) → has (ones_of rejected) y ≡ (has (ones_of all) y && is_wanted (not holding) (bit_at row y == 1))) →
    rejected_of d (λ y. is_wanted holding (bit_at row y == 1)) ≡ length (ones_of rejected)
row_rejects d all rejected row holding whole is =
    ap length (
    filter_agree_from (λ y. not (is_wanted holding (bit_at row y == 1))) fails 0 d (λ y from low. sym (wanted_not holding (bit_at row y == 1)))
    ∙ ap (filter fails) (sym whole)
    ∙ sym (ones_of-passing rejected all fails (λ y low. sym (has-ones_of rejected y low) ∙ is y ∙ ap (λ b. b && fails y) (has-ones_of all y low))))
  where
    fails : ℕ → Bool
    fails y = is_wanted (not holding) (bit_at row y == 1)

-- one row more
pub rejects_next : (d : ℕ) (holding : Bool) (masks : List ℕ) (x most next : ℕ) → most ≤ next → rejected_of d (λ y. is_wanted holding (bit_at (slice_index_or masks x 0) y == 1)) ≤ next →
    ((z : ℕ) → z < x → rejected_of d (λ y. is_wanted holding (bit_at (slice_index_or masks z 0) y == 1)) ≤ most) →
    (z : ℕ) → z < x + 1 → rejected_of d (λ y. is_wanted holding (bit_at (slice_index_or masks z 0) y == 1)) ≤ next
rejects_next d holding masks x most next more here old z low = go (cases_eq z x)
  where
    many : ℕ → ℕ
    many k = rejected_of d (λ y. is_wanted holding (bit_at (slice_index_or masks k 0) y == 1))

    go : (z ≡ x) ⊎ (z ≢ x) → many z ≤ next
    go (inl same) = subst (λ (k : ℕ). many k ≤ next) (sym same) here
    go (inr other) = (let before : many z ≤ most = old z (omega arith) in omega arith)

-- the values of a mask are a set
pub ones_of-set : (mask : ℕ) → IsSet (ones_of mask)
unfolding ones_of
ones_of-set mask = rises_filter (λ x. bit_at mask x == 1) 0 64 (lit≤ tt)
