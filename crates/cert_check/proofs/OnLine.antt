-- Where a tuple is, as a variable of its scope goes through its values.
use Rattle.cert_check.proofs.Prelude.{◌≡◌, ◌≢◌, ℕ, zero, suc, ◌+◌, ◌*◌, ◌^◌, ◌<◌, ◌≤◌, Bool, true, false, ◌&&◌, not, List, [], ◌∷◌, length, drop, cond, get_or, Option, Some, None, refl, sym, ◌∙◌, ap, subst, arith, drop_all, get_or-set_other, get_or-set_same, is_some, slice_set, slice_index_or, and_parts, both_ways, false_from_ne_true, Assignment, covers, tuple_on, value_of, Candidate, Language, IsLanguage, place_on, scope_at, violates}
use Rattle.std.proofs.Math.Bool.{and-false}
use Rattle.std.proofs.Math.Nat.{add-mul, mul-add, mul_assoc, mul-le-mul, one-le-pow, pow-le-pow_right, pow-zero}
use Rattle.std.proofs.Common.{pow-suc}
use Rattle.std.proofs.lemmas.Option.{cond_some}
use Rattle.language.specs.Language.{relation_of}
use Rattle.language.proofs.Placing.{place_from, one_more, value_fits, below_after, fits_after}
use Rattle.shared_lemmas.proofs.Read.{cond_none}

left_bare : (b : Bool) (y : ℕ) → b ≡ false → cond b (Some y) None ≡ None
left_bare b y off = ap (λ c. cond c (Some y) None) off

-- ---- one variable more

here_more : (p s d x : ℕ) → (p + x * s) * d + x ≡ p * d + x * (s * d + 1)
here_more p s d x = omega (arith, add-mul p (x * s) d, mul_assoc x s d, mul-add x (s * d) 1)

other_more : (p s d x y : ℕ) → (p + x * s) * d + y ≡ p * d + y + x * (s * d)
other_more p s d x y = omega (arith, add-mul p (x * s) d, mul_assoc x s d)

stride_more : (d k s t : ℕ) → 1 ≤ d → s ≤ k * d ^ k → t ≤ 1 → s * d + t ≤ (k + 1) * d ^ (k + 1)
stride_more d k s t some few one =
    let size : d ^ (k + 1) ≡ d ^ k * d = ap (λ n. d ^ n) (let e : k + 1 ≡ suc k = omega arith in e) ∙ pow-suc d k in
    let power : 1 ≤ d ^ (k + 1) = one-le-pow (k + 1) d some in
    let most : s * d ≤ k * d ^ k * d = mul-le-mul few (let e : d ≤ d = omega arith in e) in
    let all : k * d ^ k * d ≡ k * d ^ (k + 1) = mul_assoc k (d ^ k) d ∙ ap (λ n. k * n) (sym size) in
    let more : (k + 1) * d ^ (k + 1) ≡ k * d ^ (k + 1) + 1 * d ^ (k + 1) = add-mul k 1 (d ^ (k + 1)) in
    omega arith

-- the place of the first k variables' tuple, and by how much a value of the variable moves it
pub record IsLineSoFar (d v : ℕ) (e : Assignment) (scope : List ℕ) (k p s : ℕ) : Type 0 where
  pub is : (x : ℕ) → place_from d 0 (slice_set e v (Some x)) scope ≡ place_from d (p + x * s) (slice_set e v (Some x)) (drop k scope)
  pub below : (x : ℕ) → x < d → p + x * s + 1 ≤ d ^ k
  pub few : s ≤ k * d ^ k
  pub within : k ≤ length scope

pub line_begins : (d v : ℕ) (e : Assignment) (scope : List ℕ) → IsLineSoFar d v e scope 0 0 0
line_begins d v e scope = record {
  is = λ x. ap (λ n. place_from d n (slice_set e v (Some x)) scope) (let none : 0 ≡ 0 + x * 0 = omega arith in none);
  below = λ x low. omega (arith, pow-zero d);
  few = omega arith;
  within = omega arith;
}

module _ (d v : ℕ) (e : Assignment) (scope : List ℕ) (k p s n : ℕ) (so_far : IsLineSoFar d v e scope k p s) (low : k < length scope) (some : 1 ≤ d) (count : n ≡ d) where
  abbrev w : ℕ
  w = get_or scope k 0

  -- it is the variable
  pub line_here : w ≡ v → v < length e → IsLineSoFar d v e scope (k + 1) (p * n) (s * n + 1)
  line_here same known = record {
    is = λ x.
        one_more d n (p + x * s) x x k (slice_set e v (Some x)) scope _ (Some x) low
        (sym (ap (value_of (slice_set e v (Some x))) same ∙ get_or-set_same e v (Some x) None known)) refl count refl (so_far.is x)
        ∙ ap (λ m. place_from d m (slice_set e v (Some x)) (drop (k + 1) scope)) (here_more p s n x);
    below = λ x small. let next = below_after d n (p + x * s) x x k (so_far.below x small) small count refl in omega (arith, next, here_more p s n x);
    few = subst (λ m. s * m + 1 ≤ (k + 1) * d ^ (k + 1)) (sym count) (stride_more d k s 1 some so_far.few (omega arith));
    within = omega arith;
  }

  -- it is another one, which has a value
  pub line_beside : (y z : ℕ) (value : Option ℕ) → w ≢ v → value ≡ value_of e w → value ≡ Some y → y < d → z ≡ y → IsLineSoFar d v e scope (k + 1) (p * n + z) (s * n)
  line_beside y z value other is there small same = record {
    is = λ x.
        one_more d n (p + x * s) y z k (slice_set e v (Some x)) scope _ value low
        (is ∙ sym (get_or-set_other e v w (Some x) None other)) there count same (so_far.is x)
        ∙ ap (λ m. place_from d m (slice_set e v (Some x)) (drop (k + 1) scope)) (other_more p s n x z);
    below = λ x within. let next = below_after d n (p + x * s) y z k (so_far.below x within) small count same in omega (arith, next, other_more p s n x z);
    few = (let most = subst (λ m. s * m + 0 ≤ (k + 1) * d ^ (k + 1)) (sym count) (stride_more d k s 0 some so_far.few (omega arith)) in omega (arith, most));
    within = omega arith;
  }

  -- it is another one, which has none
  pub line_lacks : w ≢ v → None ≡ value_of e w → (x : ℕ) → place_from d 0 (slice_set e v (Some x)) scope ≡ None
  line_lacks other none x = left_bare (covers f scope) _ (bare scope k low (get_or-set_other e v w (Some x) None other ∙ sym none))
    where
      f : Assignment
      f = slice_set e v (Some x)

      bare : (ws : List ℕ) (j : ℕ) → j < length ws → value_of f (get_or ws j 0) ≡ None → covers f ws ≡ false
      bare [] j under is = absurd (omega arith)
      bare (u ∷ ws) zero under is = ap (λ o. is_some o && covers f ws) is
      bare (u ∷ ws) (suc j) under is = ap (λ b. is_some (value_of f u) && b) (bare ws j (omega arith) is) ∙ and-false (is_some (value_of f u))

  -- the numbers fit
  pub place_fits : (y z : ℕ) → y < d → z ≡ y → length scope ≤ 4 → d ^ length scope ≤ 65536 → p * n + z + 1 ≤ 65536
  place_fits y z small same short fits =
      let next = fits_after d n p y z k (length scope) some (let first = so_far.below 0 (omega arith) in omega (arith, first)) small low count same in
      omega (arith, next, fits)

  pub stride_fits : length scope ≤ 4 → d ^ length scope ≤ 65536 → s * n + 1 ≤ 262144
  stride_fits short fits =
      let most : s * n + 1 ≤ (k + 1) * d ^ (k + 1) = subst (λ m. s * m + 1 ≤ (k + 1) * d ^ (k + 1)) (sym count) (stride_more d k s 1 some so_far.few (omega arith)) in
      let power : d ^ (k + 1) ≤ d ^ length scope = pow-le-pow_right some (let e : k + 1 ≤ length scope = omega arith in e) in
      let all : (k + 1) * d ^ (k + 1) ≤ 4 * 65536 = mul-le-mul (let e : k + 1 ≤ 4 = omega arith in e) (let e : d ^ (k + 1) ≤ 65536 = omega arith in e) in
      omega arith

pub line_ends : (d v : ℕ) (e : Assignment) (scope : List ℕ) (k p s : ℕ) → IsLineSoFar d v e scope k p s → length scope ≤ k → (x : ℕ) → place_from d 0 (slice_set e v (Some x)) scope ≡ Some (p + x * s)
line_ends d v e scope k p s so_far past x = so_far.is x ∙ ap (place_from d (p + x * s) (slice_set e v (Some x))) (drop_all k scope past)

pub line_below : (d v : ℕ) (e : Assignment) (scope : List ℕ) (k p s : ℕ) → IsLineSoFar d v e scope k p s → length scope ≤ k → (x : ℕ) → x < d → p + x * s < d ^ length scope
line_below d v e scope k p s so_far past x low =
    let within = so_far.within in
    let end : k ≡ length scope = omega arith in
    subst (λ n. p + x * s < d ^ n) end (let here = so_far.below x low in omega (arith, here))

-- the next numbers fit, on a scope of a language
pub numbers_fit : (l : Language) (s v : ℕ) (e : Assignment) (k p t n y z : ℕ) → IsLanguage l → s < length l.scopes → IsLineSoFar l.value_count v e (scope_at l s) k p t →
    k < length (scope_at l s) → n ≡ l.value_count → y < l.value_count → z ≡ y → (p * n + z + 1 ≤ 65536) × (t * n + 1 ≤ 262144)
numbers_fit l s v e k p t n y z lawful there so_far low count small same =
    let short = (lawful.scopes s [] there).short in
    let fits = lawful.small s [] there in
    (place_fits l.value_count v e (scope_at l s) k p t n so_far low lawful.some_value count y z small same short fits, stride_fits l.value_count v e (scope_at l s) k p t n so_far low lawful.some_value count short fits)

-- ---- what a tuple's place tells of a candidate

module _ (l : Language) (c : Candidate) (e : Assignment) where
  pub violates_at : (p : ℕ) → place_on l c.scope e ≡ Some p → violates l c e ≡ not (slice_index_or (relation_of l c) p false)
  violates_at p there =
      let both = cond_some (covers e (scope_at l c.scope)) _ p there in
      (λ i. both.0 i && not (slice_index_or (relation_of l c) (both.1 i) false))

  pub violates_nowhere : place_on l c.scope e ≡ None → violates l c e ≡ false
  violates_nowhere none = false_from_ne_true _ (λ bad. both_ways _ (cond_none (covers e (scope_at l c.scope)) _ none) (and_parts (covers e (scope_at l c.scope)) _ bad).0)
