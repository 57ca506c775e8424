-- Two example languages are languages, so the laws speak of something.
use Rattle.session_laws.proofs.Prelude.{◌≡◌, ℕ, zero, suc, ◌<◌, ◌≤◌, ◌^◌, List, [], ◌∷◌, length, map, false, refl, sym, ◌∙◌, ap, subst, arith, All, AllPairs, Contains, IsTrue, ◌≢◌, codes, replicate, All-nil, All-cons, both_ways, is_same, Relation, meet, meet_all, IsIntersection, IsClosing, is_above, Given, IsLanguage, IsScope, AreApart, scope_at, given_on, relations_on, eq, ne, none, binary, equal_or_not, three_equal, list_same}
use Rattle.std.specs.List.Sorted.{IsStrictlyIncreasing}
use Rattle.std.proofs.lemmas.List.Kept.{AllPairs-cons}
use Rattle.std.proofs.lemmas.Int.{ints}
use Rattle.language.specs.Ranges.{IsRange, whole_range}
use Rattle.rel_table.proofs.Growing.{one_given}
use Rattle.rel_table.proofs.Pairwise.{no_pairs}

-- ---- by cases

one_of : {X : Type 0} (P : X → Type 0) (x : X) → P x → All P (x ∷ [])
one_of P x p = All-cons P x [] p (All-nil P)

three_of : {X : Type 0} (P : X → Type 0) (x y z : X) → P x → P y → P z → All P (x ∷ y ∷ z ∷ [])
three_of P x y z a b c = All-cons P x (y ∷ z ∷ []) a (All-cons P y (z ∷ []) b (one_of P z c))

one_apart : {X : Type 0} (R : X → X → Type 0) (x : X) → AllPairs R (x ∷ [])
one_apart R x = AllPairs-cons R x [] (All-nil (R x)) (no_pairs R)

three_apart : {X : Type 0} (R : X → X → Type 0) (x y z : X) → R x y → R x z → R y z → AllPairs R (x ∷ y ∷ z ∷ [])
three_apart R x y z a b c = AllPairs-cons R x (y ∷ z ∷ []) (All-cons (R x) y (z ∷ []) a (one_of (R x) z b)) (AllPairs-cons R y (z ∷ []) (one_of (R y) z c) (one_apart R z))

at_one : (P : ℕ → Type 0) → P 0 → (s : ℕ) → s < 1 → P s
at_one P one zero low = one
at_one P one (suc s) low = absurd (omega arith)

at_three : (P : ℕ → Type 0) → P 0 → P 1 → P 2 → (s : ℕ) → s < 3 → P s
at_three P one two three zero low = one
at_three P one two three (suc zero) low = two
at_three P one two three (suc (suc zero)) low = three
at_three P one two three (suc (suc (suc s))) low = absurd (omega arith)

pair_rises : (a b : ℕ) → a < b → IsStrictlyIncreasing (a ∷ b ∷ [])
pair_rises a b low zero h = low
pair_rises a b low (suc k) h = absurd (omega arith)

pair_scope : (n a b : ℕ) → a < b → b < n → IsScope n (a ∷ b ∷ [])
pair_scope n a b low high = record {
  rising = pair_rises a b low;
  not_empty = omega arith;
  short = omega arith;
  known = All-cons (λ v. v < n) a (b ∷ []) (omega arith) (one_of (λ v. v < n) b high);
}

differ : (xs ys : List ℕ) → is_same xs ys ≡ false → xs ≢ ys
differ xs ys off = λ e. both_ways _ off (ap (is_same xs) (sym e) ∙ list_same xs)

-- ---- eq, ne and none: the intersections are these three again

abbrev all : List Relation
all = eq ∷ ne ∷ none ∷ []

one_is : (P : Relation → Type 0) (r : Relation) → Contains all r → P eq → P ne → P none → P r
one_is P r (zero, low, at) p q s = subst P at p
one_is P r (suc zero, low, at) p q s = subst P at q
one_is P r (suc (suc zero), low, at) p q s = subst P at s
one_is P r (suc (suc (suc k)), low, at) p q s = absurd (omega arith)

first : Contains all eq
first = (0, omega arith, refl)

second : Contains all ne
second = (1, omega arith, refl)

third : Contains all none
third = (2, omega arith, refl)

meets : (r q : Relation) → Contains all r → Contains all q → Contains all (meet r q)
meets r q here given =
    one_is (λ x. Contains all (meet x q)) r here
    (one_is (λ x. Contains all (meet eq x)) q given first third third)
    (one_is (λ x. Contains all (meet ne x)) q given third second third)
    (one_is (λ x. Contains all (meet none x)) q given third third third)

meets_all : (r : Relation) (more : List Relation) → Contains all r → All (Contains all) more → Contains all (meet_all r more)
meets_all r [] here given = here
meets_all r (q ∷ more) here given = meets_all (meet r q) more (meets r q here (given 0 q (omega arith))) (λ k d h. given (suc k) d (omega arith))

three_close : IsClosing all all
three_close = record {
  each = three_of (IsIntersection all) eq ne none (one_given all eq first) (one_given all ne second) (one_given all none third);
  every = λ r is. subst (Contains all) (sym is.is) (meets_all is.first is.more is.first_given is.more_given);
  falling = three_apart (λ r q. IsTrue (is_above r q)) eq ne none refl refl refl;
}

each_of : {X : Type 0} (P : X → Type 0) (n : ℕ) (x : X) → P x → All P (replicate n x)
each_of P zero x p = All-nil P
each_of P (suc n) x p = All-cons P x (replicate n x) p (each_of P n x p)

two_values : IsRange 2 (whole_range 2)
two_values = record { some = omega arith; known = omega arith }

abbrev IsSized : Given → Type 0
IsSized g = length g.relation ≡ 2 ^ g.arity

pub equal_or_not_is : IsLanguage equal_or_not
equal_or_not_is = record {
  some_variable = omega arith;
  few_variables = omega arith;
  names = record { formed = refl; apart = AllPairs-cons (λ a b. a ≢ b) (codes "a") (codes "b" ∷ []) (one_of (λ b. codes "a" ≢ b) (codes "b") (differ (codes "a") (codes "b") refl)) (one_apart (λ a b. a ≢ b) (codes "b")) };
  some_value = omega arith;
  few_values = omega arith;
  low = omega (arith, ints);
  high = omega (arith, ints);
  ranged = refl;
  ranges = each_of (IsRange 2) 2 (whole_range 2) two_values;
  relation_names = record { formed = refl; apart = three_apart (λ a b. a ≢ b) (codes "eq") (codes "ne") (codes "none") (differ (codes "eq") (codes "ne") refl) (differ (codes "eq") (codes "none") refl) (differ (codes "ne") (codes "none") refl) };
  given_sized = three_of IsSized (binary (codes "eq") eq) (binary (codes "ne") ne) (binary (codes "none") none) refl refl refl;
  few_scopes = omega arith;
  scopes = one_of (IsScope 2) (0 ∷ 1 ∷ []) (pair_scope 2 0 1 (omega arith) (omega arith));
  apart = one_apart AreApart (0 ∷ 1 ∷ []);
  closed = at_one (λ s. IsClosing (map (λ (g : Given). g.relation) (given_on equal_or_not s)) (relations_on equal_or_not s)) three_close;
  sized = at_one (λ s. All (λ r. length r ≡ 2 ^ length (scope_at equal_or_not s)) (relations_on equal_or_not s)) (three_of (λ (r : Relation). length r ≡ 4) eq ne none refl refl refl);
  few_relations = at_one (λ s. length (relations_on equal_or_not s) ≤ 64) (omega arith);
  small = one_of (λ (scope : List ℕ). 2 ^ length scope ≤ 65536) (0 ∷ 1 ∷ []) (omega arith);
  used = at_one (λ s. 1 ≤ length (relations_on equal_or_not s)) (omega arith);
}

-- ---- eq alone over three variables

only_eq : (P : Relation → Type 0) (r : Relation) → Contains (eq ∷ []) r → P eq → P r
only_eq P r (zero, low, at) p = subst P at p
only_eq P r (suc k, low, at) p = absurd (omega arith)

eq_again : (r : Relation) (more : List Relation) → r ≡ eq → All (Contains (eq ∷ [])) more → meet_all r more ≡ eq
eq_again r [] is given = is
eq_again r (q ∷ more) is given = eq_again (meet r q) more (ap (λ x. meet x q) is ∙ only_eq (λ x. meet eq x ≡ eq) q (given 0 q (omega arith)) refl) (λ k d h. given (suc k) d (omega arith))

eq_closes : IsClosing (eq ∷ []) (eq ∷ [])
eq_closes = record {
  each = one_of (IsIntersection (eq ∷ [])) eq (one_given (eq ∷ []) eq (0, omega arith, refl));
  every = λ r is. (0, omega arith, sym (is.is ∙ eq_again is.first is.more (only_eq (λ x. x ≡ eq) is.first is.first_given refl) is.more_given));
  falling = one_apart (λ r q. IsTrue (is_above r q)) eq;
}

pub three_equal_is : IsLanguage three_equal
three_equal_is = record {
  some_variable = omega arith;
  few_variables = omega arith;
  names = record { formed = refl; apart = three_apart (λ a b. a ≢ b) (codes "a") (codes "b") (codes "c") (differ (codes "a") (codes "b") refl) (differ (codes "a") (codes "c") refl) (differ (codes "b") (codes "c") refl) };
  some_value = omega arith;
  few_values = omega arith;
  low = omega (arith, ints);
  high = omega (arith, ints);
  ranged = refl;
  ranges = each_of (IsRange 2) 3 (whole_range 2) two_values;
  relation_names = record { formed = refl; apart = one_apart (λ a b. a ≢ b) (codes "eq") };
  given_sized = one_of IsSized (binary (codes "eq") eq) refl;
  few_scopes = omega arith;
  scopes = three_of (IsScope 3) (0 ∷ 1 ∷ []) (0 ∷ 2 ∷ []) (1 ∷ 2 ∷ []) (pair_scope 3 0 1 (omega arith) (omega arith)) (pair_scope 3 0 2 (omega arith) (omega arith)) (pair_scope 3 1 2 (omega arith) (omega arith));
  apart = three_apart AreApart (0 ∷ 1 ∷ []) (0 ∷ 2 ∷ []) (1 ∷ 2 ∷ []) (record { left = refl; right = refl }) (record { left = refl; right = refl }) (record { left = refl; right = refl });
  closed = at_three (λ s. IsClosing (map (λ (g : Given). g.relation) (given_on three_equal s)) (relations_on three_equal s)) eq_closes eq_closes eq_closes;
  sized = at_three (λ s. All (λ r. length r ≡ 2 ^ length (scope_at three_equal s)) (relations_on three_equal s))
      (one_of (λ (r : Relation). length r ≡ 4) eq refl) (one_of (λ (r : Relation). length r ≡ 4) eq refl) (one_of (λ (r : Relation). length r ≡ 4) eq refl);
  few_relations = at_three (λ s. length (relations_on three_equal s) ≤ 64) (omega arith) (omega arith) (omega arith);
  small = three_of (λ (scope : List ℕ). 2 ^ length scope ≤ 65536) (0 ∷ 1 ∷ []) (0 ∷ 2 ∷ []) (1 ∷ 2 ∷ []) (omega arith) (omega arith) (omega arith);
  used = at_three (λ s. 1 ≤ length (relations_on three_equal s)) (omega arith) (omega arith) (omega arith);
}
