-- A condition on two variables, revised by the masks of its relation.
use Rattle.propagators.proofs.Prelude.{◌≡◌, ℕ, zero, suc, ◌<◌, Bool, true, false, List, [], ◌∷◌, length, map, take, refl, sym, ◌∙◌, ap, subst, arith, slice_index_or, All, All-nil, All-cons, has, ones_of, ◌==◌, bit_at, Family, Arc, sets_on, is_wanted, is_not_empty, AreBelow, AreDifferent, AreSupported, IsWithin, IsThrough, IsRevised, IsDead, replaced, goes_by, Pair}
use Rattle.propagators.proofs.Conditions.{supported_as}
use Rattle.propagators.proofs.Replacing.{is_revised, is_dead, member_of_some, value_within}

-- the masks of two variables' sets
pub two_sets : (sets : List ℕ) (f : Family) (first second : ℕ) → take 2 (map ones_of sets) ≡ sets_on f (first ∷ second ∷ []) → (j : ℕ) → j < 2 → ones_of (slice_index_or sets j 0) ≡ slice_index_or f (slice_index_or (first ∷ second ∷ []) j 0) []
two_sets [] f first second on j low = absurd (let two = ap length on in omega arith)
two_sets (n ∷ []) f first second on j low = absurd (let two = ap length on in omega arith)
two_sets (n ∷ k ∷ sets) f first second on zero low = ap (λ (s : List (List ℕ)). slice_index_or s 0 []) on
two_sets (n ∷ k ∷ sets) f first second on (suc zero) low = ap (λ (s : List (List ℕ)). slice_index_or s 1 []) on
two_sets (n ∷ k ∷ sets) f first second on (suc (suc j)) low = absurd (omega arith)

pub two_below : (d : ℕ) (sets : List ℕ) (f : Family) (first second : ℕ) → take 2 (map ones_of sets) ≡ sets_on f (first ∷ second ∷ []) → ((v : ℕ) → AreBelow d (slice_index_or f v [])) → (j : ℕ) → j < 2 → AreBelow d (ones_of (slice_index_or sets j 0))
two_below d sets f first second on below j low = subst (AreBelow d) (sym (two_sets sets f first second on j low)) (below (slice_index_or (first ∷ second ∷ []) j 0))

pub on_two : (sets : List ℕ) (f : Family) (first second : ℕ) (accepted : List ℕ → Bool) (found : List (List ℕ)) → take 2 (map ones_of sets) ≡ sets_on f (first ∷ second ∷ []) →
    AreSupported (ones_of (slice_index_or sets 0 0) ∷ ones_of (slice_index_or sets 1 0) ∷ []) accepted found → AreSupported (sets_on f (first ∷ second ∷ [])) accepted found
on_two [] f first second accepted found on is = absurd (let two = ap length on in omega arith)
on_two (n ∷ []) f first second accepted found on is = absurd (let two = ap length on in omega arith)
on_two (n ∷ k ∷ sets) f first second accepted found on is = subst (λ (s : List (List ℕ)). AreSupported s accepted found) on is

-- what is found is of the variables' sets
pub two_within : (sets : List ℕ) (f : Family) (first second n k : ℕ) → take 2 (map ones_of sets) ≡ sets_on f (first ∷ second ∷ []) →
    ((x : ℕ) → has (ones_of n) x ≡ true → has (ones_of (slice_index_or sets 0 0)) x ≡ true) → ((x : ℕ) → has (ones_of k) x ≡ true → has (ones_of (slice_index_or sets 1 0)) x ≡ true) →
    (j x : ℕ) → j < 2 → has (ones_of (slice_index_or {A = ℕ} (n ∷ k ∷ 0 ∷ 0 ∷ []) j 0)) x ≡ true → has (slice_index_or f (slice_index_or (first ∷ second ∷ []) j 0) []) x ≡ true
two_within sets f first second n k on in_first in_second zero x low h = sym (ap (λ xs. has xs x) (two_sets sets f first second on 0 low)) ∙ in_first x h
two_within sets f first second n k on in_first in_second (suc zero) x low h = sym (ap (λ xs. has xs x) (two_sets sets f first second on 1 low)) ∙ in_second x h
two_within sets f first second n k on in_first in_second (suc (suc j)) x low h = absurd (omega arith)

-- what is supported of two sets is of them
pub pair_part : (xs ys found_x found_y : List ℕ) (accepted : List ℕ → Bool) → AreSupported (xs ∷ ys ∷ []) accepted (found_x ∷ found_y ∷ []) → ((x : ℕ) → has found_x x ≡ true → has xs x ≡ true) × ((y : ℕ) → has found_y y ≡ true → has ys y ≡ true)
pair_part xs ys found_x found_y accepted is = (λ x h. from 0 x (omega arith) (is.only 0 x h), λ y h. from 1 y (omega arith) (is.only 1 y h))
  where
    from : (i x : ℕ) → i < 2 → IsThrough (xs ∷ ys ∷ []) accepted i x → has (slice_index_or (xs ∷ ys ∷ []) i []) x ≡ true
    from i x low t = ap (has (slice_index_or (xs ∷ ys ∷ []) i [])) (sym t.at) ∙ value_within (xs ∷ ys ∷ []) t.tuple i t.within low

-- by its rows the condition says the same of the tuples within sets
pub rows_supported : (d : ℕ) (accepted : List ℕ → Bool) (holding : Bool) (rows xs ys : List ℕ) (found : List (List ℕ)) → ((x y : ℕ) → x < d → y < d → accepted (x ∷ y ∷ []) ≡ is_wanted holding (bit_at (slice_index_or rows x 0) y == 1)) → AreBelow d xs → AreBelow d ys →
    AreSupported (xs ∷ ys ∷ []) (goes_by rows holding) found → AreSupported (xs ∷ ys ∷ []) accepted found
rows_supported d accepted holding rows xs ys found is below_x below_y = supported_as (xs ∷ ys ∷ []) (goes_by rows holding) accepted found same
  where
    same : (tuple : List ℕ) → IsWithin (xs ∷ ys ∷ []) tuple → goes_by rows holding tuple ≡ accepted tuple
    same [] h = absurd h
    same (v ∷ []) h = absurd h.1
    same (v ∷ w ∷ []) h = sym (is v w (below_x v h.0) (below_y w h.1.0))
    same (v ∷ w ∷ u ∷ tuple) h = absurd h.1.1

module _ (a : Arc) (p : Pair) (f : Family) (x y : ℕ) (scope : a.scope ≡ p.first ∷ p.second ∷ []) (apart : AreDifferent (p.first ∷ p.second ∷ [])) (first : p.first < length f) (second : p.second < length f)
    (supported : AreSupported (sets_on f (p.first ∷ p.second ∷ [])) a.accepted (ones_of x ∷ ones_of y ∷ [])) where
  here : AreSupported (sets_on f a.scope) a.accepted (ones_of x ∷ ones_of y ∷ [])
  here = subst (λ (scope : List ℕ). AreSupported (sets_on f scope) a.accepted (ones_of x ∷ ones_of y ∷ [])) (sym scope) supported

  known : All (λ v. v < length f) a.scope
  known = subst (λ (vs : List ℕ). All (λ v. v < length f) vs) (sym scope)
      (All-cons (λ v. v < length f) p.first (p.second ∷ []) first (All-cons (λ v. v < length f) p.second [] second (All-nil (λ v. v < length f))))

  pub pair_revised : is_not_empty (ones_of x) ≡ true → (g : Family) → g ≡ replaced (p.first ∷ p.second ∷ []) (ones_of x ∷ ones_of y ∷ []) f → IsRevised a f g
  pair_revised some g written =
      let one = member_of_some (ones_of x) some in
      subst (IsRevised a f) (sym (written ∙ ap (λ (vs : List ℕ). replaced vs (ones_of x ∷ ones_of y ∷ []) f) (sym scope)))
      (is_revised a f (ones_of x ∷ ones_of y ∷ []) (subst AreDifferent (sym scope) apart) (sym (ap length scope)) known here one.0 one.1)

  pub pair_dead : is_not_empty (ones_of x) ≡ false → IsDead a f
  pair_dead none =
      is_dead a f (ones_of x ∷ ones_of y ∷ []) (subst AreDifferent (sym scope) apart) (sym (ap length scope)) known here
      (let two = ap length scope in omega arith) (empty (ones_of x) none)
    where
      empty : (xs : List ℕ) → is_not_empty xs ≡ false → xs ≡ []
      empty [] h = refl
      empty (v ∷ xs) h = cc
