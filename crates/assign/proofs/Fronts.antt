-- The members below a place are a front of a set; a place is looked for below which so many stand.
use Rattle.assign.proofs.Prelude.{◌≡◌, ℕ, zero, suc, ◌+◌, ◌/◌, ◌<◌, ◌≤◌, Bool, true, false, cond, ◌&&◌, List, [], ◌∷◌, length, take, refl, sym, ◌∙◌, ap, subst, arith, inl, inr, nat_lt, lit≤, bit_and, filter, range_with_len, cases_lt, lt-ltb, le-ltb, numbers, has, set_where, members_of, first_half, Rises, filter_agree_from, has-set_where, has-members_of, is_one}
use Rattle.assign.proofs.Masks.{filter_lt, is_one-and}

-- the members below a place
abbrev pub below : ℕ → List ℕ → List ℕ
below place set = filter (λ v. nat_lt v place) set

-- ---- the members below a place are a front

pub below_none : (place a : ℕ) (set : List ℕ) → place ≤ a → Rises a set → below place set ≡ []
below_none place a [] h r = refl
below_none place a (x ∷ set) h r = let low = r.0 in rw (le-ltb x place (omega arith)) (below_none place (x + 1) set (omega arith) r.2)

pub below_all : (place a : ℕ) (set : List ℕ) → 128 ≤ place → Rises a set → below place set ≡ set
below_all place a [] h r = refl
below_all place a (x ∷ set) h r = let most = r.1 in rw (lt-ltb x place (omega arith)) (ap (λ xs. x ∷ xs) (below_all place (x + 1) set h r.2))

pub below_front : (place a : ℕ) (set : List ℕ) → Rises a set → below place set ≡ take (length (below place set)) set
below_front place a [] r = refl
below_front place a (x ∷ set) r =
    elim (cases_lt x place) as (λ _. below place (x ∷ set) ≡ take (length (below place (x ∷ set))) (x ∷ set)) [
      | inl low ↦ rw (lt-ltb x place low) (ap (λ xs. x ∷ xs) (below_front place (x + 1) set r.2))
      | inr high ↦ rw (le-ltb x place high, below_none place (x + 1) set (omega arith) r.2) refl
    ]

-- a higher place has no fewer members below it
pub below_more : (low high a : ℕ) (set : List ℕ) → low ≤ high → Rises a set → length (below low set) ≤ length (below high set)
below_more low high a [] h r = omega arith
below_more low high a (x ∷ set) h r =
    elim (cases_lt x low) as (λ _. length (below low (x ∷ set)) ≤ length (below high (x ∷ set))) [
      | inl below ↦ let more = below_more low high (x + 1) set h r.2 in rw (lt-ltb x low below, lt-ltb x high (omega arith)) (omega (arith, more))
      | inr above ↦ rw (le-ltb x low above, below_none low (x + 1) set (omega arith) r.2) (omega arith)
    ]

-- and the next place at most one more
pub below_next : (place a : ℕ) (set : List ℕ) → Rises a set → length (below (place + 1) set) ≤ length (below place set) + 1
below_next place a [] r = omega arith
below_next place a (x ∷ set) r =
    elim (cases_lt x place) as (λ _. length (below (place + 1) (x ∷ set)) ≤ length (below place (x ∷ set)) + 1) [
      | inl low ↦ let more = below_next place (x + 1) set r.2 in rw (lt-ltb x place low, lt-ltb x (place + 1) (omega arith)) (omega (arith, more))
      | inr high ↦
          let rest : length (below (place + 1) set) ≡ 0 = ap length (below_none (place + 1) (x + 1) set (omega arith) r.2) in
          let none : length (below place set) ≡ 0 = ap length (below_none place (x + 1) set (omega arith) r.2) in
          one_more x place (below place set) (below (place + 1) set) high (omega (arith, rest))
    ]
  where
    one_more : (x place : ℕ) (xs ys : List ℕ) → place ≤ x → length ys ≤ 0 → length (cond (nat_lt x (place + 1)) (x ∷ ys) ys) ≤ length (cond (nat_lt x place) (x ∷ xs) xs) + 1
    one_more x place xs ys h short = go (nat_lt x (place + 1)) (nat_lt x place)
      where
        go : (b c : Bool) → length (cond b (x ∷ ys) ys) ≤ length (cond c (x ∷ xs) xs) + 1
        go true c = omega arith
        go false c = omega arith

-- ---- the place below which half of the members stand

-- Below each place that was passed there are too few members, and below `high` there are enough.
pub record IsBetween (set : List ℕ) (half low high : ℕ) : Type 0 where
  pub ordered : low ≤ high
  pub within : high ≤ 128
  pub few : (place : ℕ) → place < low → length (below place set) < half
  pub enough : half ≤ length (below high set)

pub at_first : (set : List ℕ) (half : ℕ) → Rises 0 set → half ≤ length set → IsBetween set half 0 128
at_first set half r h = record {
  ordered = omega arith;
  within = omega arith;
  few = λ place low. absurd (omega arith);
  enough = let all : length (below 128 set) ≡ length set = ap length (below_all 128 0 set (lit≤ tt) r) in omega (arith, all);
}

pub from_above : (set : List ℕ) (half low high middle : ℕ) → Rises 0 set → IsBetween set half low high → low ≤ middle → middle < high → length (below middle set) < half → IsBetween set half (middle + 1) high
from_above set half low high middle r h above under few = record {
  ordered = omega arith;
  within = h.within;
  few = λ place below_it. let more = below_more place middle 0 set (omega arith) r in omega (arith, more);
  enough = h.enough;
}

pub up_to : (set : List ℕ) (half low high middle : ℕ) → IsBetween set half low high → low ≤ middle → middle < high → half ≤ length (below middle set) → IsBetween set half low middle
up_to set half low high middle h above under enough = record { ordered = above; within = omega (arith, h.within); few = h.few; enough = enough }

exact : (set : List ℕ) (half low : ℕ) → Rises 0 set → IsBetween set half low low → length (below low set) ≡ half
exact set half zero r h =
    let none : length (below 0 set) ≡ 0 = ap length (below_none 0 0 set (omega arith) r) in omega (arith, none, h.enough)
exact set half (suc low) r h =
    let next : length (below (suc low) set) ≤ length (below low set) + 1 = subst (λ (k : ℕ). length (below k set) ≤ length (below low set) + 1) (let e : low + 1 ≡ suc low = omega arith in e) (below_next low 0 set r) in
    omega (arith, next, h.few low (omega arith), h.enough)

pub half_below : (set : List ℕ) (half low high : ℕ) → Rises 0 set → half ≡ (length set + 1) / 2 → high ≤ low → IsBetween set half low high → below low set ≡ first_half set
half_below set half low high r e met h =
    let same : high ≡ low = omega (arith, h.ordered) in
    below_front low 0 set r ∙ ap (λ k. take k set) (exact set half low r (subst (λ (k : ℕ). IsBetween set half low k) same h) ∙ e)

-- ---- in a mask

filter-filter : (p q : ℕ → Bool) (xs : List ℕ) → filter q (filter p xs) ≡ filter (λ v. p v && q v) xs
filter-filter p q [] = refl
filter-filter p q (x ∷ xs) = go (p x) (filter-filter p q xs)
  where
    go : (b : Bool) → filter q (filter p xs) ≡ filter (λ v. p v && q v) xs →
        filter q (cond b (x ∷ filter p xs) (filter p xs)) ≡ cond (b && q x) (x ∷ filter (λ v. p v && q v) xs) (filter (λ v. p v && q v) xs)
    go true e = ap (λ ys. cond (q x) (x ∷ ys) ys) e
    go false e = e

numbers_where : (n : ℕ) → n ≤ 128 → numbers n ≡ set_where (λ v. nat_lt v n)
unfolding set_where
numbers_where n h = sym (filter_lt n 0 128 n (omega arith) h)

pub has-numbers : (n v : ℕ) → n ≤ 128 → v < 128 → has (numbers n) v ≡ nat_lt v n
has-numbers n v h low = ap (λ xs. has xs v) (numbers_where n h) ∙ has-set_where (λ w. nat_lt w n) v low

-- what a mask and the mask of the numbers below a place have in common
pub members_of-below : (a b place : ℕ) → place ≤ 128 → members_of b ≡ numbers place → members_of (bit_and a b) ≡ below place (members_of a)
unfolding set_where
members_of-below a b place h e =
    filter_agree_from (is_one (bit_and a b)) (λ v. is_one a v && nat_lt v place) 0 128
    (λ v low high. is_one-and a b v ∙ ap (λ t. is_one a v && t) (sym (has-members_of b v high) ∙ ap (λ xs. has xs v) e ∙ has-numbers place v h high))
    ∙ sym (filter-filter (is_one a) (λ v. nat_lt v place) (range_with_len 0 128))
