-- Collecting supported values, one value of the first set after another.
use Rattle.propagators.proofs.Prelude.{◌≡◌, ℕ, zero, suc, ◌<◌, Bool, true, false, ◌&&◌, ◌||◌, not, List, [], ◌∷◌, ◌+◌, ◌*◌, ◌^◌, ◌≤◌, refl, sym, ◌∙◌, ap, subst, arith, inl, inr, ◌⊎◌, ◌==◌, slice_index_or, filter, and_parts, and_from, or_left, or_right, or_cases, both_ways, eq-eqb, eqb-true, not-true, mul-le-mul_right, mul_assoc, pow-succ', pow-zero, has, ones_of, is_not_empty, IsWithin, IsThrough, AreSupported, AreSupportedBeside, HasTuple, HasNoTuple, ones_of-zero, has-filter}
use Rattle.propagators.proofs.Replacing.{member_of_some, some_of_member}

-- each has the members of the one at its place
abbrev pub AreMore : List (List ℕ) → List (List ℕ) → Type 0
AreMore [] [] = Unit {0}
AreMore [] (ys ∷ more) = ⊥
AreMore (xs ∷ sets) [] = ⊥
AreMore (xs ∷ sets) (ys ∷ more) = ((x : ℕ) → has xs x ≡ true → has ys x ≡ true) × AreMore sets more

pub within_more : (sets more : List (List ℕ)) (tuple : List ℕ) → AreMore sets more → IsWithin sets tuple → IsWithin more tuple
within_more [] [] tuple m h = h
within_more [] (ys ∷ more) tuple m h = absurd m
within_more (xs ∷ sets) [] tuple m h = absurd m
within_more (xs ∷ sets) (ys ∷ more) [] m h = absurd h
within_more (xs ∷ sets) (ys ∷ more) (x ∷ tuple) m h = (m.0 x h.0, within_more sets more tuple m.1 h.1)

-- each has the members of one or both of those at its place
abbrev pub AreEither : List (List ℕ) → List (List ℕ) → List (List ℕ) → Type 0
AreEither [] [] [] = Unit {0}
AreEither [] [] (z ∷ zs) = ⊥
AreEither [] (y ∷ ys) zs = ⊥
AreEither (x ∷ xs) [] zs = ⊥
AreEither (x ∷ xs) (y ∷ ys) [] = ⊥
AreEither (x ∷ xs) (y ∷ ys) (z ∷ zs) = ((v : ℕ) → has z v ≡ (has x v || has y v)) × AreEither xs ys zs

either_left : (xs ys zs : List (List ℕ)) → AreEither xs ys zs → AreMore xs zs
either_left [] [] [] h = tt
either_left [] [] (z ∷ zs) h = absurd h
either_left [] (y ∷ ys) zs h = absurd h
either_left (x ∷ xs) [] zs h = absurd h
either_left (x ∷ xs) (y ∷ ys) [] h = absurd h
either_left (x ∷ xs) (y ∷ ys) (z ∷ zs) h = (λ v at. h.0 v ∙ or_left _ _ at, either_left xs ys zs h.1)

either_right : (xs ys zs : List (List ℕ)) → AreEither xs ys zs → AreMore ys zs
either_right [] [] [] h = tt
either_right [] [] (z ∷ zs) h = absurd h
either_right [] (y ∷ ys) zs h = absurd h
either_right (x ∷ xs) [] zs h = absurd h
either_right (x ∷ xs) (y ∷ ys) [] h = absurd h
either_right (x ∷ xs) (y ∷ ys) (z ∷ zs) h = (λ v at. h.0 v ∙ or_right _ _ at, either_right xs ys zs h.1)

either_cases : (xs ys zs : List (List ℕ)) → AreEither xs ys zs → (i v : ℕ) → has (slice_index_or zs i []) v ≡ true → (has (slice_index_or xs i []) v ≡ true) ⊎ (has (slice_index_or ys i []) v ≡ true)
either_cases [] [] [] h i v at = inl at
either_cases [] [] (z ∷ zs) h i v at = absurd h
either_cases [] (y ∷ ys) zs h i v at = absurd h
either_cases (x ∷ xs) [] zs h i v at = absurd h
either_cases (x ∷ xs) (y ∷ ys) [] h i v at = absurd h
either_cases (x ∷ xs) (y ∷ ys) (z ∷ zs) h zero v at = or_cases (has x v) (has y v) (sym (h.0 v) ∙ at)
either_cases (x ∷ xs) (y ∷ ys) (z ∷ zs) h (suc i) v at = either_cases xs ys zs h.1 i v at

-- ---- one set

pub one_supported : (xs ys : List ℕ) (accepted : List ℕ → Bool) → ((y : ℕ) → has xs y ≡ true → has ys y ≡ accepted (y ∷ [])) → ((y : ℕ) → has ys y ≡ true → has xs y ≡ true) →
    AreSupported (xs ∷ []) accepted (ys ∷ [])
one_supported xs ys accepted is part = record { all = all; only = only }
  where
    all : (tuple : List ℕ) → IsWithin (xs ∷ []) tuple → accepted tuple ≡ true → IsWithin (ys ∷ []) tuple
    all [] h at = absurd h
    all (x ∷ []) h at = (is x h.0 ∙ at, tt)
    all (x ∷ y ∷ tuple) h at = absurd h.1

    only : (i x : ℕ) → has (slice_index_or (ys ∷ []) i []) x ≡ true → IsThrough (xs ∷ []) accepted i x
    only zero x h = record { tuple = x ∷ []; within = (part x h, tt); at = refl; is = sym (is x (part x h)) ∙ h }
    only (suc i) x h = cc

-- ---- the values of the first set, one after another

-- the members of the first that are gone from the rest
abbrev pub gone : ℕ → ℕ → List ℕ
gone first rest = filter (λ y. not (has (ones_of rest) y)) (ones_of first)

-- what the gone values of the first set support
pub record IsSweeping (first rest : ℕ) (sets : List (List ℕ)) (accepted : List ℕ → Bool) (a : ℕ) (found : List (List ℕ)) : Type 0 where
  pub part : (y : ℕ) → has (ones_of rest) y ≡ true → has (ones_of first) y ≡ true
  pub supported : AreSupported (gone first rest ∷ sets) accepted (ones_of a ∷ found)

is_gone : (first rest y : ℕ) → has (ones_of first) y ≡ true → has (ones_of rest) y ≡ false → has (gone first rest) y ≡ true
is_gone first rest y there lost = has-filter (λ z. not (has (ones_of rest) z)) (ones_of first) y ∙ and_from _ _ there (ap not lost)

was_gone : (first rest y : ℕ) → has (gone first rest) y ≡ true → (has (ones_of first) y ≡ true) × (has (ones_of rest) y ≡ false)
was_gone first rest y h =
    let both = and_parts (has (ones_of first) y) (not (has (ones_of rest) y)) (sym (has-filter (λ z. not (has (ones_of rest) z)) (ones_of first) y) ∙ h) in
    (both.0, not-true _ both.1)

-- nothing is found yet
abbrev pub AreEmpty : List (List ℕ) → Type 0
AreEmpty [] = Unit {0}
AreEmpty (xs ∷ sets) = (xs ≡ []) × AreEmpty sets

none_there : (sets : List (List ℕ)) (i x : ℕ) → AreEmpty sets → has (slice_index_or sets i []) x ≡ true → ⊥
none_there [] i x h at = cc
none_there (xs ∷ sets) zero x h at = both_ways _ (ap (λ ys. has ys x) h.0) at
none_there (xs ∷ sets) (suc i) x h at = none_there sets i x h.1 at

pub sweep_begin : (first : ℕ) (sets : List (List ℕ)) (accepted : List ℕ → Bool) (found : List (List ℕ)) → AreEmpty found → IsSweeping first first sets accepted 0 found
sweep_begin first sets accepted found empty = record { part = λ y h. h; supported = record { all = all; only = λ i x h. absurd (none_there (ones_of 0 ∷ found) i x (ones_of-zero, empty) h) } }
  where
    all : (tuple : List ℕ) → IsWithin (gone first first ∷ sets) tuple → accepted tuple ≡ true → IsWithin (ones_of 0 ∷ found) tuple
    all [] h at = absurd h
    all (x ∷ tuple) h at = (let was = was_gone first first x h.0 in absurd (both_ways _ was.1 was.0))

pub sweep_end : (first rest : ℕ) (sets : List (List ℕ)) (accepted : List ℕ → Bool) (a : ℕ) (found : List (List ℕ)) → rest ≡ 0 → IsSweeping first rest sets accepted a found →
    AreSupported (ones_of first ∷ sets) accepted (ones_of a ∷ found)
sweep_end first rest sets accepted a found over is = record { all = all; only = λ i x h. through i x (is.supported.only i x h) }
  where
    lost : (y : ℕ) → has (ones_of rest) y ≡ false
    lost y = ap (λ m. has (ones_of m) y) over ∙ ap (λ ys. has ys y) ones_of-zero

    all : (tuple : List ℕ) → IsWithin (ones_of first ∷ sets) tuple → accepted tuple ≡ true → IsWithin (ones_of a ∷ found) tuple
    all [] h at = absurd h
    all (x ∷ tuple) h at = is.supported.all (x ∷ tuple) (is_gone first rest x h.0 (lost x), h.1) at

    within : (tuple : List ℕ) → IsWithin (gone first rest ∷ sets) tuple → IsWithin (ones_of first ∷ sets) tuple
    within [] h = absurd h
    within (x ∷ tuple) h = ((was_gone first rest x h.0).0, h.1)

    through : (i x : ℕ) → IsThrough (gone first rest ∷ sets) accepted i x → IsThrough (ones_of first ∷ sets) accepted i x
    through i x t = record { tuple = t.tuple; within = within t.tuple t.within; at = t.at; is = t.is }

-- the value x goes, with what it supports in the other sets
pub sweep_step : (first rest : ℕ) (s : List ℕ) (sets : List (List ℕ)) (accepted : List ℕ → Bool) (a : ℕ) (found : List (List ℕ)) (x later b c : ℕ) (below next : List (List ℕ)) →
    IsSweeping first rest (s ∷ sets) accepted a found →
    has (ones_of rest) x ≡ true → ((y : ℕ) → has (ones_of later) y ≡ (has (ones_of rest) y && not (x == y))) →
    AreSupportedBeside (s ∷ sets) (λ tuple. accepted (x ∷ tuple)) found (ones_of b ∷ below) →
    ((y : ℕ) → has (ones_of c) y ≡ (has (ones_of a) y || (is_not_empty (ones_of b) && (x == y)))) →
    AreEither found (ones_of b ∷ below) next →
    IsSweeping first later (s ∷ sets) accepted c next
sweep_step first rest s sets accepted a found x later b c below next is there goes under adds joins = record { part = part; supported = record { all = all; only = only } }
  where
    part : (y : ℕ) → has (ones_of later) y ≡ true → has (ones_of first) y ≡ true
    part y h = is.part y (and_parts (has (ones_of rest) y) (not (x == y)) (sym (goes y) ∙ h)).0

    still : (y : ℕ) → has (gone first rest) y ≡ true → has (gone first later) y ≡ true
    still y h = (let was = was_gone first rest y h in is_gone first later y was.0 (goes y ∙ ap (λ q. q && not (x == y)) was.1))

    now : has (gone first later) x ≡ true
    now = is_gone first later x (is.part x there) (goes x ∙ at_x (has (ones_of rest) x) (x == x) (eq-eqb x x refl))
      where
        at_x : (p q : Bool) → q ≡ true → (p && not q) ≡ false
        at_x true true h = refl
        at_x false true h = refl
        at_x p false h = cc

    through_old : (i y : ℕ) → IsThrough (gone first rest ∷ s ∷ sets) accepted i y → IsThrough (gone first later ∷ s ∷ sets) accepted i y
    through_old i y t = record { tuple = t.tuple; within = within t.tuple t.within; at = t.at; is = t.is }
      where
        within : (tuple : List ℕ) → IsWithin (gone first rest ∷ s ∷ sets) tuple → IsWithin (gone first later ∷ s ∷ sets) tuple
        within [] h = absurd h
        within (z ∷ tuple) h = (still z h.0, h.1)

    through_new : (i y : ℕ) → IsThrough (s ∷ sets) (λ tuple. accepted (x ∷ tuple)) i y → IsThrough (gone first later ∷ s ∷ sets) accepted (suc i) y
    through_new i y t = record { tuple = x ∷ t.tuple; within = (now, t.within); at = t.at; is = t.is }

    through_first : (y : ℕ) → (x == y) ≡ true → is_not_empty (ones_of b) ≡ true → IsThrough (gone first later ∷ s ∷ sets) accepted 0 y
    through_first y same some =
        let z = member_of_some (ones_of b) some in
        let t = under.some z.0 z.1 in
        record { tuple = x ∷ t.tuple; within = (now, t.within); at = eqb-true x y same; is = t.is }

    only : (i y : ℕ) → has (slice_index_or (ones_of c ∷ next) i []) y ≡ true → IsThrough (gone first later ∷ s ∷ sets) accepted i y
    only zero y h = go (or_cases (has (ones_of a) y) (is_not_empty (ones_of b) && (x == y)) (sym (adds y) ∙ h))
      where
        go : (has (ones_of a) y ≡ true) ⊎ ((is_not_empty (ones_of b) && (x == y)) ≡ true) → IsThrough (gone first later ∷ s ∷ sets) accepted 0 y
        go (inl old) = through_old 0 y (is.supported.only 0 y old)
        go (inr new) = (let both = and_parts (is_not_empty (ones_of b)) (x == y) new in through_first y both.1 both.0)
    only (suc i) y h = go (either_cases found (ones_of b ∷ below) next joins i y h)
      where
        go : (has (slice_index_or found i []) y ≡ true) ⊎ (has (slice_index_or (ones_of b ∷ below) i []) y ≡ true) → IsThrough (gone first later ∷ s ∷ sets) accepted (suc i) y
        go (inl old) = through_old (suc i) y (is.supported.only (suc i) y old)
        go (inr new) = below_or (under.only i y new)
          where
            below_or : (has (slice_index_or found i []) y ≡ true) ⊎ IsThrough (s ∷ sets) (λ tuple. accepted (x ∷ tuple)) i y → IsThrough (gone first later ∷ s ∷ sets) accepted (suc i) y
            below_or (inl known) = through_old (suc i) y (is.supported.only (suc i) y known)
            below_or (inr t) = through_new i y t

    begins : (tuple : List ℕ) → IsWithin (ones_of b ∷ below) tuple → is_not_empty (ones_of b) ≡ true
    begins [] h = absurd h
    begins (z ∷ tuple) h = some_of_member (ones_of b) z h.0

    with_x : (tuple : List ℕ) → IsWithin (s ∷ sets) tuple → accepted (x ∷ tuple) ≡ true → IsWithin (ones_of c ∷ next) (x ∷ tuple)
    with_x tuple h at =
        let found_below = under.all tuple h at in
        (adds x ∙ or_right _ _ (and_from _ _ (begins tuple found_below) (eq-eqb x x refl)), within_more (ones_of b ∷ below) next tuple (either_right found (ones_of b ∷ below) next joins) found_below)

    all : (tuple : List ℕ) → IsWithin (gone first later ∷ s ∷ sets) tuple → accepted tuple ≡ true → IsWithin (ones_of c ∷ next) tuple
    all [] h at = absurd h
    all (y ∷ tuple) h at = go (x == y) refl
      where
        was : (has (ones_of first) y ≡ true) × (has (ones_of later) y ≡ false)
        was = was_gone first later y h.0

        kept : (p q : Bool) → q ≡ false → (p && not q) ≡ false → p ≡ false
        kept true true e k = cc
        kept true false e k = k
        kept false q e k = refl

        go : (e : Bool) → (x == y) ≡ e → IsWithin (ones_of c ∷ next) (y ∷ tuple)
        go true same =
            let xy : x ≡ y = eqb-true x y same in
            subst (λ (z : ℕ). IsWithin (ones_of c ∷ next) (z ∷ tuple)) xy (with_x tuple h.1 (ap (λ z. accepted (z ∷ tuple)) xy ∙ at))
        go false other =
            let old = is.supported.all (y ∷ tuple) (is_gone first rest y was.0 (kept (has (ones_of rest) y) (x == y) other (sym (goes y) ∙ was.1)), h.1) at in
            (adds y ∙ or_left _ _ old.0, within_more found next tuple (either_left found (ones_of b ∷ below) next joins) old.1)

-- what is supported is so whatever was found before
pub supported_beside : (sets : List (List ℕ)) (accepted : List ℕ → Bool) (before found : List (List ℕ)) → AreSupported sets accepted found → AreSupportedBeside sets accepted before found
supported_beside sets accepted before found is = record {
  all = is.all;
  only = λ i x h. inr (is.only i x h);
  some = λ x h. (let t = is.only 0 x h in record { tuple = t.tuple; within = t.within; is = t.is });
}

-- where each value was found before
pub all_beside : (sets : List (List ℕ)) (accepted : List ℕ → Bool) → HasTuple sets accepted → AreSupportedBeside sets accepted sets sets
all_beside sets accepted one = record { all = λ tuple h at. h; only = λ i x h. inl h; some = λ x h. one }

-- and where there is no tuple
pub none_beside : (sets : List (List ℕ)) (accepted : List ℕ → Bool) (before found : List (List ℕ)) → AreEmpty found → HasNoTuple sets accepted → AreSupportedBeside sets accepted before found
none_beside sets accepted before found empty none = record {
  all = λ tuple h at. absurd (none tuple h at);
  only = λ i x h. absurd (none_there found i x empty h);
  some = λ x h. absurd (none_there found 0 x empty h);
}

-- ---- whether there is a tuple, one value of the first set after another

-- no gone value of the first set is in one
pub record IsBarren (first rest : ℕ) (sets : List (List ℕ)) (accepted : List ℕ → Bool) : Type 0 where
  pub part : (y : ℕ) → has (ones_of rest) y ≡ true → has (ones_of first) y ≡ true
  pub none : HasNoTuple (gone first rest ∷ sets) accepted

pub barren_begin : (first : ℕ) (sets : List (List ℕ)) (accepted : List ℕ → Bool) → IsBarren first first sets accepted
barren_begin first sets accepted = record { part = λ y h. h; none = none }
  where
    none : HasNoTuple (gone first first ∷ sets) accepted
    none [] h at = h
    none (x ∷ tuple) h at = (let was = was_gone first first x h.0 in both_ways _ was.1 was.0)

pub barren_step : (first rest : ℕ) (sets : List (List ℕ)) (accepted : List ℕ → Bool) (x later : ℕ) → IsBarren first rest sets accepted → ((y : ℕ) → has (ones_of later) y ≡ (has (ones_of rest) y && not (x == y))) →
    HasNoTuple sets (λ tuple. accepted (x ∷ tuple)) → IsBarren first later sets accepted
barren_step first rest sets accepted x later is goes below = record {
  part = λ y h. is.part y (and_parts (has (ones_of rest) y) (not (x == y)) (sym (goes y) ∙ h)).0;
  none = none;
}
  where
    none : HasNoTuple (gone first later ∷ sets) accepted
    none [] h at = h
    none (y ∷ tuple) h at = go (x == y) refl
      where
        was : (has (ones_of first) y ≡ true) × (has (ones_of later) y ≡ false)
        was = was_gone first later y h.0

        kept : (p q : Bool) → q ≡ false → (p && not q) ≡ false → p ≡ false
        kept true true e k = cc
        kept true false e k = k
        kept false q e k = refl

        go : (e : Bool) → (x == y) ≡ e → ⊥
        go true same = below tuple h.1 (ap (λ z. accepted (z ∷ tuple)) (eqb-true x y same) ∙ at)
        go false other = is.none (y ∷ tuple) (is_gone first rest y was.0 (kept (has (ones_of rest) y) (x == y) other (sym (goes y) ∙ was.1)), h.1) at

pub barren_end : (first rest : ℕ) (sets : List (List ℕ)) (accepted : List ℕ → Bool) → rest ≡ 0 → IsBarren first rest sets accepted → HasNoTuple (ones_of first ∷ sets) accepted
barren_end first rest sets accepted over is = none
  where
    none : HasNoTuple (ones_of first ∷ sets) accepted
    none [] h at = h
    none (x ∷ tuple) h at = is.none (x ∷ tuple) (is_gone first rest x h.0 (ap (λ m. has (ones_of m) x) over ∙ ap (λ ys. has ys x) ones_of-zero), h.1) at

-- a tuple below the value x
pub tuple_there : (first rest : ℕ) (sets : List (List ℕ)) (accepted : List ℕ → Bool) (x : ℕ) → IsBarren first rest sets accepted → has (ones_of rest) x ≡ true → HasTuple sets (λ tuple. accepted (x ∷ tuple)) → HasTuple (ones_of first ∷ sets) accepted
tuple_there first rest sets accepted x is there t = record { tuple = x ∷ t.tuple; within = (is.part x there, t.within); is = t.is }

-- whether there is one is told by what is supported
pub some_supported : (sets : List (List ℕ)) (accepted : List ℕ → Bool) (m : ℕ) → AreSupported sets accepted (ones_of m ∷ []) → is_not_empty (ones_of m) ≡ true → HasTuple sets accepted
some_supported sets accepted m is some = (let z = member_of_some (ones_of m) some in let t = is.only 0 z.0 z.1 in record { tuple = t.tuple; within = t.within; is = t.is })

pub none_supported : (sets : List (List ℕ)) (accepted : List ℕ → Bool) (m : ℕ) → AreSupported sets accepted (ones_of m ∷ []) → is_not_empty (ones_of m) ≡ false → HasNoTuple sets accepted
none_supported sets accepted m is none = λ tuple h at. begins tuple (is.all tuple h at)
  where
    begins : (tuple : List ℕ) → IsWithin (ones_of m ∷ []) tuple → ⊥
    begins [] h = h
    begins (z ∷ tuple) h = both_ways _ none (some_of_member (ones_of m) z h.0)

pub both_true : (a b : Bool) → a ≡ true → (a && b) ≡ b
both_true true b h = refl
both_true false b h = cc

pub part_true : (a b : Bool) → (a && b) ≡ true → a ≡ true
part_true true b h = refl
part_true false b h = h

-- ---- places

-- the next place down, with as many places below it
pub place_fits : (at d x rest size : ℕ) → x < d → (at + 1) * (d * rest) ≤ size → (at * d + x + 1) * rest ≤ size
place_fits at d x rest size low fits =
    let step : at * d + x + 1 ≤ (at + 1) * d = omega arith in
    let more : (at * d + x + 1) * rest ≤ (at + 1) * d * rest = mul-le-mul_right rest step in
    let same : (at + 1) * d * rest ≡ (at + 1) * (d * rest) = mul_assoc (at + 1) d rest in
    omega arith

pub power_one : (d : ℕ) → d ^ 1 ≡ d
power_one d = pow-succ' d 0 ∙ ap (λ k. d * k) (pow-zero d) ∙ (let e : d * 1 ≡ d = omega arith in e)

pub power_two : (d : ℕ) → d ^ 2 ≡ d * d
power_two d = pow-succ' d 1 ∙ ap (λ k. d * k) (power_one d)

pub power_three : (d : ℕ) → d ^ 3 ≡ d * (d * d)
power_three d = pow-succ' d 2 ∙ ap (λ k. d * k) (power_two d)

pub power_four : (d : ℕ) → d ^ 4 ≡ d * (d * (d * d))
power_four d = pow-succ' d 3 ∙ ap (λ k. d * k) (power_three d)
