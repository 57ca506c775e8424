-- The place of a question's tuple on two variables.
use Rattle.bias_store.proofs.Prelude.{◌≡◌, ℕ, ◌+◌, ◌*◌, ◌^◌, ◌<◌, Bool, true, false, ◌&&◌, List, [], ◌∷◌, Option, Some, None, refl, sym, ◌∙◌, ap, arith, is_some, unwrap_or, if◌then◌else◌, pow-zero, Assignment, value_of, covers, tuple_on, place, Language, scope_at, place_on, below_after}
use Rattle.rel_table.proofs.Powers.{place_step}

and_false : (b : Bool) → (b && (false && true)) ≡ false
and_false true = refl
and_false false = refl

abbrev placed : Language → Assignment → List ℕ → Option ℕ
placed l q xs = if covers q xs then Some (place l.value_count (tuple_on q xs)) else None

of_two : (d : ℕ) (o p : Option ℕ) (x y : ℕ) → o ≡ Some x → p ≡ Some y → Some (x * d + y) ≡ (if is_some o && (is_some p && true) then Some ((0 * d + unwrap_or o 0) * d + unwrap_or p 0) else None)
of_two d o p x y first second = sym (
    (λ i. if is_some (first i) && (is_some (second i) && true) then Some ((0 * d + unwrap_or (first i) 0) * d + unwrap_or (second i) 0) else None)
    ∙ ap (λ t. Some (t * d + y)) (let e : 0 * d + x ≡ x = omega arith in e))

-- where both have one
pub pair_place : (l : Language) (s : ℕ) (q : Assignment) (first second x y : ℕ) → scope_at l s ≡ first ∷ second ∷ [] → value_of q first ≡ Some x → value_of q second ≡ Some y → Some (x * l.value_count + y) ≡ place_on l s q
pair_place l s q first second x y is one two = of_two l.value_count (value_of q first) (value_of q second) x y one two ∙ ap (placed l q) (sym is)

pub pair_below : (d k x y at value n : ℕ) → x < d → y < d → at ≡ x → k ≡ d → value ≡ y → n ≡ 2 → at * k + value < d ^ n
pair_below d k x y at value n low_x low_y same_x same_d same_y two =
    let one = place_step d 0 x 0 (omega (arith, pow-zero d)) low_x in
    let step = below_after d k at y value 1 (omega (arith, one)) low_y same_d same_y in
    omega (arith, step, ap (λ i. d ^ i) two)
