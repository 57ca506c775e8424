-- The search for the least tuple on which two choices differ.
use Rattle.find_c.proofs.Prelude.{◌≡◌, ℕ, zero, suc, ◌+◌, ◌*◌, ◌^◌, ◌<◌, ◌≤◌, Bool, true, false, cond, ◌&&◌, ◌||◌, not, List, [], ◌∷◌, length, drop, get_or, Some, None, refl, sym, ◌∙◌, ap, subst, arith, drop-cons, pow-suc, suc-mul, mul_comm, ◌==◌, find, beq, bit_not, trailing_zeros, w64, filter, list_any, drop_all, bit_at-zero, bit_at-trailing_zeros, is_one, place, tuples, length-tuples, get_or-tuples, place-tuple_at, Language, scope_at, scene_of, Choice, Scene, allows, tells_apart, splitting_tuple, after_reply, beside_none, is_accepting, allows_at, differ_at, IsAtRow, IsFoundFrom, is_one-not}
use lib.Count.{count_trailing_zeros}
use Rattle.find_c.proofs.Marks.{beside_none_is}

-- a choice allows a tuple where it allows its place
pub allows_there : (scene : Scene) (u : List ℕ) (p : ℕ) → place scene.value_count u ≡ p → (c : Choice) → allows_at scene p c ≡ allows scene u c
allows_there scene u p e None = refl
allows_there scene u p e (Some r) = ap (λ k. get_or (get_or scene.relations r []) k false) (sym e)

-- the choices that agree with the mask agree with the reply
pub agreeing_is : (scene : Scene) (cs next : List Choice) (u : List ℕ) (p mask : ℕ) (reply : Bool) → place scene.value_count u ≡ p → ((c : Choice) → is_accepting mask c ≡ allows_at scene p c) →
    next ≡ filter (λ c. beq (is_accepting mask c) reply) cs → next ≡ after_reply scene u reply cs
agreeing_is scene cs next u p mask reply e each is = is ∙ (λ i. filter (λ c. beq ((each c ∙ allows_there scene u p e c) i) reply) cs)

pub place_there : (d a p : ℕ) → p < d ^ a → place d (get_or (tuples d a) p []) ≡ p
place_there d a p low = ap (place d) (get_or-tuples d a p low) ∙ place-tuple_at d a p low

find_from : {X : Type 0} (t : X → Bool) (xs : List X) (k : ℕ) (x : X) → k < length xs → find t (drop k xs) ≡ cond (t (get_or xs k x)) (Some (get_or xs k x)) (find t (drop (k + 1) xs))
find_from t xs k x low = ap (find t) (drop-cons xs k x low) ∙ ap (λ j. cond (t (get_or xs k x)) (Some (get_or xs k x)) (find t (drop j xs))) (let e : suc k ≡ k + 1 = omega arith in e)

-- ---- from a place on

module _ (scene : Scene) (cs : List Choice) where
  abbrev us : List (List ℕ)
  us = tuples scene.value_count scene.arity

  pub tells_there : (p : ℕ) → p < scene.value_count ^ scene.arity → differ_at scene cs p ≡ tells_apart scene cs (get_or us p [])
  tells_there p low = λ i.
      list_any (λ c. allows_there scene (get_or us p []) p (place_there scene.value_count scene.arity p low) c i) cs
      && list_any (λ c. not (allows_there scene (get_or us p []) p (place_there scene.value_count scene.arity p low) c i)) cs

  turn : (p : ℕ) → p < scene.value_count ^ scene.arity → find (tells_apart scene cs) (drop p us) ≡ cond (differ_at scene cs p) (Some (get_or us p [])) (find (tells_apart scene cs) (drop (p + 1) us))
  turn p low =
      find_from (tells_apart scene cs) us p [] (omega (arith, low, length-tuples scene.value_count scene.arity))
      ∙ ap (λ b. cond b (Some (get_or us p [])) (find (tells_apart scene cs) (drop (p + 1) us))) (sym (tells_there p low))

  -- they differ at none of these places
  pub none_until : (p n : ℕ) → p + n ≤ scene.value_count ^ scene.arity → ((k : ℕ) → k < n → differ_at scene cs (p + k) ≡ false) →
      find (tells_apart scene cs) (drop p us) ≡ find (tells_apart scene cs) (drop (p + n) us)
  none_until p zero fits none = ap (λ k. find (tells_apart scene cs) (drop k us)) (let e : p ≡ p + 0 = omega arith in e)
  none_until p (suc n) fits none =
      turn p (omega arith)
      ∙ ap (λ b. cond b (Some (get_or us p [])) (find (tells_apart scene cs) (drop (p + 1) us))) (ap (differ_at scene cs) (let e : p ≡ p + 0 = omega arith in e) ∙ none 0 (omega arith))
      ∙ none_until (p + 1) n (omega arith) (λ k low. ap (differ_at scene cs) (let e : p + 1 + k ≡ p + suc k = omega arith in e) ∙ none (suc k) (omega arith))
      ∙ ap (λ k. find (tells_apart scene cs) (drop k us)) (let e : p + 1 + n ≡ p + suc n = omega arith in e)

  -- they do at this one first
  pub first_at : (p n : ℕ) → p + n < scene.value_count ^ scene.arity → ((k : ℕ) → k < n → differ_at scene cs (p + k) ≡ false) → differ_at scene cs (p + n) ≡ true →
      find (tells_apart scene cs) (drop p us) ≡ Some (get_or us (p + n) [])
  first_at p n fits none here =
      none_until p n (omega arith) none ∙ turn (p + n) fits
      ∙ ap (λ b. cond b (Some (get_or us (p + n) [])) (find (tells_apart scene cs) (drop (p + n + 1) us))) here

pub found_nowhere : (scene : Scene) (cs : List Choice) (p : ℕ) → scene.value_count ^ scene.arity ≤ p → find (tells_apart scene cs) (drop p (tuples scene.value_count scene.arity)) ≡ None
found_nowhere scene cs p past = ap (find (tells_apart scene cs)) (drop_all p (tuples scene.value_count scene.arity) (omega (arith, past, length-tuples scene.value_count scene.arity)))

-- they differ at the first place of all
pub found_first : (scene : Scene) (cs : List Choice) → 0 < scene.value_count ^ scene.arity → differ_at scene cs 0 ≡ true → Some (get_or (tuples scene.value_count scene.arity) 0 []) ≡ splitting_tuple scene cs
found_first scene cs some here = sym (first_at scene cs 0 0 (omega arith) (λ k below. absurd (omega arith)) here)

-- ---- a row of places at once

-- the place of a mask's lowest one, or 64 where it has none
pub record IsLowest (mask y : ℕ) : Type 0 where
  pub none : (k : ℕ) → k < y → is_one mask k ≡ false
  pub one : y < 64 → is_one mask y ≡ true

no_lowest : trailing_zeros w64 0 ≡ 64
unfolding count_trailing_zeros
no_lowest = refl

pub lowest_is : (mask : ℕ) → mask < 2 ^ 64 → IsLowest mask (trailing_zeros w64 mask)
lowest_is zero fits = record { none = λ k below. ap (λ x. x == 1) (bit_at-zero k); one = λ small. absurd (let all = no_lowest in omega arith) }
lowest_is (suc m) fits = let low = bit_at-trailing_zeros w64 (suc m) (omega arith) fits in record { none = λ k below. ap (λ x. x == 1) (low.2 k below); one = λ small. ap (λ x. x == 1) low.1 }

module _ (scene : Scene) (cs : List Choice) (p mask y : ℕ) (fits : p + scene.value_count ≤ scene.value_count ^ scene.arity) (small : scene.value_count ≤ 64)
    (tells : (k : ℕ) → k < scene.value_count → is_one mask k ≡ differ_at scene cs (p + k)) (lowest : IsLowest mask y) where
  -- they differ within the row
  pub found_in_row : y < scene.value_count → find (tells_apart scene cs) (drop p (tuples scene.value_count scene.arity)) ≡ Some (get_or (tuples scene.value_count scene.arity) (p + y) [])
  found_in_row within = first_at scene cs p y (omega arith) (λ k below. sym (tells k (omega arith)) ∙ lowest.none k below) (sym (tells y within) ∙ lowest.one (omega arith))

  -- they don't
  pub found_past_row : scene.value_count ≤ y → find (tells_apart scene cs) (drop p (tuples scene.value_count scene.arity)) ≡ find (tells_apart scene cs) (drop (p + scene.value_count) (tuples scene.value_count scene.arity))
  found_past_row past = none_until scene cs p scene.value_count fits (λ k below. sym (tells k below) ∙ lowest.none k (omega arith))

-- ---- rows

pub at_first_row : (d a : ℕ) → 1 ≤ a → IsAtRow d (d ^ a) 0
at_first_row d zero some = absurd (omega arith)
at_first_row d (suc a) some = record { before = 0; rows = d ^ a; start = omega arith; end = omega (arith, pow-suc d a, mul_comm d (d ^ a)) }

pub row_fits : (d places p : ℕ) → IsAtRow d places p → p < places → p + d ≤ places
row_fits d places p is low = go is.rows is.end
  where
    go : (rows : ℕ) → p + rows * d ≡ places → p + d ≤ places
    go zero end = omega arith
    go (suc rows) end = omega (arith, suc-mul rows d)

-- past the last row is the end
pub at_end : (d places p : ℕ) → IsAtRow d places p → places ≤ p → p ≡ places
at_end d places p is past = let end = is.end in omega arith

pub at_next_row : (d places p : ℕ) → IsAtRow d places p → p < places → IsAtRow d places (p + d)
at_next_row d places p is low = go is.rows is.end
  where
    go : (rows : ℕ) → p + rows * d ≡ places → IsAtRow d places (p + d)
    go zero end = absurd (omega arith)
    go (suc rows) end = record { before = is.before + 1; rows = rows; start = (let start = is.start in omega (arith, start)); end = omega (arith, suc-mul rows d) }

pub from_first_row : (l : Language) (s : ℕ) (cs : List Choice) → 1 ≤ length (scope_at l s) → IsFoundFrom l s cs 0
from_first_row l s cs some = record { found = refl; row = at_first_row l.value_count (length (scope_at l s)) some }

pub from_next_row : (l : Language) (s : ℕ) (cs : List Choice) (p n mask y : ℕ) → IsFoundFrom l s cs p → p < l.value_count ^ length (scope_at l s) → l.value_count ≤ 64 → n ≡ l.value_count →
    ((k : ℕ) → k < l.value_count → is_one mask k ≡ differ_at (scene_of l s) cs (p + k)) → IsLowest mask y → n ≤ y → IsFoundFrom l s cs (p + n)
from_next_row l s cs p n mask y from low small row tells lowest past =
    let fits = row_fits l.value_count (l.value_count ^ length (scope_at l s)) p from.row low in
    record {
      found = ap (λ k. find (tells_apart (scene_of l s) cs) (drop (p + k) (tuples l.value_count (length (scope_at l s))))) row
          ∙ sym (found_past_row (scene_of l s) cs p mask y fits small tells lowest (omega arith)) ∙ from.found;
      row = subst (λ k. IsAtRow l.value_count (l.value_count ^ length (scope_at l s)) (p + k)) (sym row) (at_next_row l.value_count (l.value_count ^ length (scope_at l s)) p from.row low);
    }

-- ---- few choices

-- one choice doesn't differ from itself
pub none_of_one : (scene : Scene) (cs : List Choice) → length cs ≤ 1 → splitting_tuple scene cs ≡ None
none_of_one scene cs few = go (tuples scene.value_count scene.arity)
  where
    same : (cs : List Choice) → length cs ≤ 1 → (u : List ℕ) → tells_apart scene cs u ≡ false
    same [] few u = refl
    same (c ∷ []) few u = off (allows scene u c)
      where
        off : (b : Bool) → ((b || false) && (not b || false)) ≡ false
        off true = refl
        off false = refl
    same (c ∷ d ∷ cs) few u = absurd (omega arith)

    go : (us : List (List ℕ)) → find (tells_apart scene cs) us ≡ None
    go [] = refl
    go (u ∷ us) = ap (λ b. cond b (Some u) (find (tells_apart scene cs) us)) (same cs few u) ∙ go us

-- a relation and none differ where the relation rejects
pub differ_from_none : (scene : Scene) (r p : ℕ) → not (allows_at scene p (Some r)) ≡ differ_at scene (Some r ∷ None ∷ []) p
differ_from_none scene r p = go (allows_at scene p (Some r))
  where
    go : (b : Bool) → not b ≡ ((b || (true || false)) && (not b || (false || false)))
    go true = refl
    go false = refl

-- so where the relation's row has no one
pub rejecting_row : (scene : Scene) (cs : List Choice) (r p row : ℕ) → row < 2 ^ 64 → scene.value_count ≤ 64 → beside_none cs ≡ Some r →
    ((k : ℕ) → k < scene.value_count → is_one row k ≡ allows_at scene (p + k) (Some r)) → (k : ℕ) → k < scene.value_count → is_one (bit_not w64 row) k ≡ differ_at scene cs (p + k)
rejecting_row scene cs r p row fits few is tells k low =
    is_one-not row k fits (omega arith) ∙ ap not (tells k low) ∙ differ_from_none scene r (p + k) ∙ ap (λ ds. differ_at scene ds (p + k)) (sym (beside_none_is cs r is))
