-- Behind a reply the search for a tuple goes on in the row of the one that was asked about.
use Rattle.find_c.proofs.Prelude.{◌≡◌, ℕ, zero, suc, ◌+◌, ◌-◌, ◌*◌, ◌%◌, ◌<◌, ◌≤◌, ◌^◌, Bool, true, false, cond, ◌&&◌, ◌||◌, not, List, [], ◌∷◌, length, drop, get_or, Option, Some, None, refl, sym, ◌∙◌, ap, subst, arith, pow-suc, mul_comm, find, filter, list_any, place, tuples, length-tuples, Language, IsLanguage, scope_at, scene_of, Choice, Scene, allows, tells_apart, splitting_tuple, TellingRun, IsRun, IsAtRow, IsFoundFrom}
use Rattle.std.proofs.Common.{◌/◌}
use Rattle.std.proofs.Math.Bool.{and-false}
use Rattle.std.proofs.Math.Nat.{add-mul, div-lt_iff_lt-mul}
use Rattle.find_c.proofs.Splitting.{place_there, tells_there, none_until}

-- ---- the first that passes a test

-- it stands at a place before which none passes
pub record IsFirst {X : Type 0} (t : X → Bool) (xs : List X) (x d : X) : Type 0 where
  pub at : ℕ
  pub low : at < length xs
  pub there : get_or xs at d ≡ x
  pub before : (k : ℕ) → k < at → t (get_or xs k d) ≡ false

found_at : {X : Type 0} (t : X → Bool) (xs : List X) (x d : X) → find t xs ≡ Some x → IsFirst t xs x d
found_at t [] x d e = absurd (let no : None ≡ Some x = e in cc)
found_at t (y ∷ xs) x d e = go (t y) refl e (found_at t xs x d)
  where
    behind : t y ≡ false → (first : IsFirst t xs x d) (k : ℕ) → k < suc first.at → t (get_or (y ∷ xs) k d) ≡ false
    behind off first zero low = off
    behind off first (suc k) low = first.before k (omega arith)

    go : (b : Bool) → t y ≡ b → cond b (Some y) (find t xs) ≡ Some x → (find t xs ≡ Some x → IsFirst t xs x d) → IsFirst t (y ∷ xs) x d
    go true on here rest = record { at = 0; low = omega arith; there = (let same : Some y ≡ Some x = here in cc); before = λ k low. absurd (omega arith) }
    go false off later rest =
        let first = rest later in
        let within = first.low in
        record { at = suc first.at; low = omega arith; there = first.there; before = behind off first }

-- ---- fewer choices

none_more : {X : Type 0} (f q : X → Bool) (xs : List X) → list_any f xs ≡ false → list_any f (filter q xs) ≡ false
none_more f q [] e = e
none_more f q (x ∷ xs) e = go (f x) (q x) refl e (none_more f q xs)
  where
    go : (a b : Bool) → f x ≡ a → (a || list_any f xs) ≡ false → (list_any f xs ≡ false → list_any f (filter q xs) ≡ false) → list_any f (cond b (x ∷ filter q xs) (filter q xs)) ≡ false
    go true b is e rest = absurd (let no : true ≡ false = e in cc)
    go false true is e rest = ap (λ a. a || list_any f (filter q xs)) is ∙ rest e
    go false false is e rest = rest e

-- they differ nowhere where all of them don't
none_told : (scene : Scene) (q : Choice → Bool) (cs : List Choice) (u : List ℕ) → tells_apart scene cs u ≡ false → tells_apart scene (filter q cs) u ≡ false
none_told scene q cs u e = go (list_any (allows scene u) cs) refl e
  where
    go : (a : Bool) → list_any (allows scene u) cs ≡ a → (a && list_any (λ c. not (allows scene u c)) cs) ≡ false → tells_apart scene (filter q cs) u ≡ false
    go false off e = ap (λ a. a && list_any (λ c. not (allows scene u c)) (filter q cs)) (none_more (allows scene u) q cs off)
    go true on e = ap (λ b. list_any (allows scene u) (filter q cs) && b) (none_more (λ c. not (allows scene u c)) q cs e) ∙ and-false (list_any (allows scene u) (filter q cs))

-- ---- the row of a place

row_start : (d a p : ℕ) → 1 ≤ d → 1 ≤ a → p < d ^ a → IsAtRow d (d ^ a) (p - p % d)
row_start d zero p some wide low = absurd (omega arith)
row_start d (suc a) p some wide low =
    let here : p / d < d ^ a = (div-lt_iff_lt-mul {k = d} {x = p} {y = d ^ a} (omega arith)).1 (omega (arith, pow-suc d a, mul_comm d (d ^ a))) in
    let parts : (p / d + (d ^ a - p / d)) * d ≡ p / d * d + (d ^ a - p / d) * d = add-mul (p / d) (d ^ a - p / d) d in
    let whole : p / d + (d ^ a - p / d) ≡ d ^ a = omega arith in
    let all : (p / d + (d ^ a - p / d)) * d ≡ d ^ a * d = ap (λ n. n * d) whole in
    record {
      before = p / d;
      rows = d ^ a - p / d;
      start = omega (arith, mul_comm d (p / d));
      end = omega (arith, mul_comm d (p / d), pow-suc d a, mul_comm d (d ^ a), parts, all);
    }

-- ---- the choices that a reply leaves

module _ (l : Language) (lawful : IsLanguage l) (run : TellingRun) (is : IsRun l run) (q : Choice → Bool) where
  abbrev us : List (List ℕ)
  us = tuples l.value_count (length (scope_at l run.scope))

  none_before : (p : ℕ) → p ≡ place l.value_count run.tuple → (k : ℕ) → k < p → tells_apart (scene_of l run.scope) (filter q run.choices) (get_or us k []) ≡ false
  none_before p at k low =
      let first = found_at (tells_apart (scene_of l run.scope) run.choices) us run.tuple [] is.tuple in
      let size = length-tuples l.value_count (length (scope_at l run.scope)) in
      let within = first.low in
      let here : place l.value_count (get_or us first.at []) ≡ first.at = place_there l.value_count (length (scope_at l run.scope)) first.at (omega (arith, size, within)) in
      let same : place l.value_count (get_or us first.at []) ≡ place l.value_count run.tuple = ap (place l.value_count) first.there in
      none_told (scene_of l run.scope) q run.choices (get_or us k []) (first.before k (omega (arith, here, same, at, low)))

  pub goes_on : (p : ℕ) → p ≡ place l.value_count run.tuple → p < l.value_count ^ length (scope_at l run.scope) → IsFoundFrom l run.scope (filter q run.choices) (p - p % l.value_count)
  goes_on p at low =
      let scene = scene_of l run.scope in
      let left = filter q run.choices in
      let start = p - p % l.value_count in
      record {
        found = ap (λ k. find (tells_apart scene left) (drop k us)) (let e : start ≡ 0 + start = omega arith in e)
            ∙ sym (none_until scene left 0 start (omega arith) (λ k below.
            let e : 0 + k ≡ k = omega arith in
            tells_there scene left (0 + k) (omega arith) ∙ ap (λ j. tells_apart scene left (get_or us j [])) e ∙ none_before p at k (omega arith)));
        row = row_start l.value_count (length (scope_at l run.scope)) p lawful.some_value (lawful.scopes run.scope [] is.scope).not_empty low;
      }
