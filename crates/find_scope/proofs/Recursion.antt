-- The steps of the plain recursion, as equations of the halving.
use Rattle.find_scope.proofs.Prelude.{◌≡◌, ℕ, suc, ◌+◌, ◌/◌, ◌<◌, Bool, true, false, not, List, [], ◌∷◌, length, refl, sym, ◌∙◌, ap, arith, length-drop, length-take, nat_lt, lt-ltb, IsSet, union, minus, first_half, second_half, Halved, Got, then_got, ask, is_empty, halve_within}
use Rattle.find_scope.proofs.Halves.{depth_is_enough, first_shorter, second_shorter, then_got_same, asked}
use Rattle.find_scope.proofs.Moves.{minus_first}

-- the question comes first
pub asks_first : (d : ℕ) (base set : List ℕ) (asks : Bool) (replies : List Bool) → halve_within d base set asks replies ≡ ask asks base replies (λ rest. halve_within d base set false rest)
asks_first d base set true replies = asked d base set replies
asks_first d base set false replies = refl

-- a set of at most one member is what is found
pub one_is_got : (base set : List ℕ) (replies : List Bool) → length set < 2 → halve_within (length set) base set false replies ≡ Got set replies
unfolding halve_within
one_is_got base [] replies h = refl
one_is_got base (v ∷ []) replies h = refl
one_is_got base (v ∷ w ∷ set) replies h = absurd (omega arith)

-- what the first half adds to what the second one gave
abbrev pub first_after : List ℕ → List ℕ → List ℕ → List Bool → Halved
first_after base first found left =
    then_got (halve_within (length first) (union base found) first (not (is_empty found)) left) (λ more last. Got (union found more) last)

-- what two halves give, the second one first
abbrev pub by_halves : List ℕ → List ℕ → List ℕ → List Bool → Halved
by_halves base first second replies = then_got (halve_within (length second) (union base first) second true replies) (first_after base first)

pub two_by_halves : (base set : List ℕ) (replies : List Bool) → 1 < length set →
    halve_within (length set) base set false replies ≡ by_halves base (first_half set) (second_half set) replies
unfolding halve_within
two_by_halves base [] replies h = absurd (omega arith)
two_by_halves base (v ∷ []) replies h = absurd (omega arith)
two_by_halves base (v ∷ w ∷ set) replies h =
    then_got_same _ _ _ _ (depth_is_enough (suc (length set)) (length second) (union base first) second true replies (second_shorter v w set) (omega arith)) (λ found left.
    then_got_same _ _ _ _ (depth_is_enough (suc (length set)) (length first) (union base found) first (not (is_empty found)) left (first_shorter v w set) (omega arith)) (λ more last. refl))
  where
    first : List ℕ
    first = first_half (v ∷ w ∷ set)

    second : List ℕ
    second = second_half (v ∷ w ∷ set)

-- so from the sets that are computed
pub goes_by_halves : (base set first second : List ℕ) (replies : List Bool) → IsSet set → 1 < length set → first ≡ first_half set → second ≡ minus set first →
    halve_within (length set) base set false replies ≡ by_halves base first second replies
goes_by_halves base set first second replies r many is_first is_second =
    two_by_halves base set replies many ∙ (λ i. by_halves base (sym is_first i) (sym (is_second ∙ ap (minus set) is_first ∙ minus_first set r) i) replies)

pub some_found : (found : List ℕ) → nat_lt 0 (length found) ≡ not (is_empty found)
some_found [] = refl
some_found (v ∷ found) = lt-ltb 0 (suc (length found)) (omega arith)

-- ---- the halves are shorter

pub first_is_shorter : (set first : List ℕ) → 1 < length set → first ≡ first_half set → length first < length set
first_is_shorter set first many e = let long : length first ≡ length (first_half set) = ap length e in omega (arith, long, length-take ((length set + 1) / 2) set)

pub second_is_shorter : (set first second : List ℕ) → IsSet set → 1 < length set → first ≡ first_half set → second ≡ minus set first → length second < length set
second_is_shorter set first second r many is_first is_second =
    let long : length second ≡ length (second_half set) = ap length (is_second ∙ ap (minus set) is_first ∙ minus_first set r) in
    omega (arith, long, length-drop ((length set + 1) / 2) set)
