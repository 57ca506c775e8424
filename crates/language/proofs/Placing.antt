-- The place of the tuple that an assignment gives to some variables, one variable after another.
use Rattle.language.proofs.Prelude.{◌≡◌, ℕ, suc, ◌+◌, ◌*◌, ◌^◌, ◌<◌, ◌≤◌, ◌&&◌, List, ◌∷◌, length, drop, Option, Some, None, ap, sym, ◌∙◌, arith, subst, ◌⊎◌, inl, inr, is_some, unwrap_or, if◌then◌else◌, slice_index_or, All, ForSome, fold, drop-cons, cases_lt, get_or_past, Assignment, value_of, covers, tuple_on}
use Rattle.rel_table.proofs.Powers.{place_step, power_within}

-- the place that is reached from one, where the variables have values
abbrev pub place_from : ℕ → ℕ → Assignment → List ℕ → Option ℕ
place_from d at e vars = if covers e vars then Some (fold (λ before x. before * d + x) at (tuple_on e vars)) else None

next_variable : (d at x v : ℕ) (e : Assignment) (vars : List ℕ) → value_of e v ≡ Some x → place_from d at e (v ∷ vars) ≡ place_from d (at * d + x) e vars
next_variable d at x v e vars h = ap (λ (o : Option ℕ). if is_some o && covers e vars then Some (fold (λ before y. before * d + y) (at * d + unwrap_or o 0) (tuple_on e vars)) else None) h

pub one_more : (d k at x y i : ℕ) (e : Assignment) (vars : List ℕ) (whole value : Option ℕ) → i < length vars → value ≡ value_of e (slice_index_or vars i 0) → value ≡ Some x →
    k ≡ d → y ≡ x → whole ≡ place_from d at e (drop i vars) → whole ≡ place_from d (at * k + y) e (drop (i + 1) vars)
one_more d k at x y i e vars whole value low is some same_count same before =
    before ∙ ap (place_from d at e) (drop-cons vars i 0 low)
    ∙ next_variable d at x (slice_index_or vars i 0) e (drop (suc i) vars) (sym is ∙ some)
    ∙ (λ j. place_from d (at * sym same_count j + sym same j) e (drop ((let n : suc i ≡ i + 1 = omega arith in n) j) vars))

-- a variable's value is below d
pub value_fits : (d v x : ℕ) (e : Assignment) (value : Option ℕ) → All (λ o. ForSome o (λ y. y < d)) e → value ≡ value_of e v → value ≡ Some x → x < d
value_fits d v x e value fits is some = go (cases_lt v (length e))
  where
    go : (v < length e) ⊎ (length e ≤ v) → x < d
    go (inl low) = fits v None low x (sym is ∙ some)
    go (inr high) = absurd (let e : Some x ≡ None = sym some ∙ is ∙ get_or_past e v None high in cc)

-- a place after one more value
pub below_after : (d k at x y i : ℕ) → at + 1 ≤ d ^ i → x < d → k ≡ d → y ≡ x → at * k + y + 1 ≤ d ^ (i + 1)
below_after d k at x y i below low same_count same =
    let step = place_step d at x i below low in
    subst (λ n. at * n + y + 1 ≤ d ^ (i + 1)) (sym same_count) (subst (λ n. at * d + n + 1 ≤ d ^ (i + 1)) (sym same) step)

pub fits_after : (d k at x y i n : ℕ) → 1 ≤ d → at + 1 ≤ d ^ i → x < d → i < n → k ≡ d → y ≡ x → at * k + y + 1 ≤ d ^ n
fits_after d k at x y i n some below low within same_count same =
    let step = below_after d k at x y i below low same_count same in
    let more = power_within d (i + 1) n some (omega arith) in
    omega (arith, step, more)
