-- Variables that have one value.
use Rattle.propagators.proofs.Prelude.{◌≡◌, ℕ, zero, suc, ◌<◌, Bool, true, ◌&&◌, ◌||◌, ◌==◌, List, [], ◌∷◌, length, and_parts, and_from, eqb-true, eq-eqb, ones_of, is_not_empty, IsOnly, IsWithin, IsThrough, AreSupported, sym, ◌∙◌, ap, arith, Option, Some, None, slice_index_or, IfSome, has, Family, Arc, IsUnderway, IsValueOf}
use Rattle.propagators.proofs.Replacing.{all_full, member_of_some, some_of_member}
use Rattle.assign.proofs.Ones.{ones_of-zero}

-- it keeps it while no set becomes empty
pub value_stays : (arcs : List Arc) (f g : Family) (v : ℕ) (value : Option ℕ) → IsUnderway arcs f g → IfSome value (IsValueOf f v) → IfSome value (IsValueOf g v)
value_stays arcs f g v None to is = tt
value_stays arcs f g v (Some x) to is =
    let low : v < length g = (let known = is.known in let size = to.size in omega arith) in
    let some = member_of_some (slice_index_or g v []) (all_full g to.full v low) in
    let same = is.only.alone some.0 (to.within v some.0 some.1) in
    record {
      known = low;
      only = record {
        there = ap (has (slice_index_or g v [])) (sym same) ∙ some.1;
        alone = λ y at. is.only.alone y (to.within v y at);
      };
    }

-- what goes with the one value of a set: it is supported where anything does
pub single_supported : (first x a b : ℕ) (s : List ℕ) (sets below : List (List ℕ)) (accepted : List ℕ → Bool) → IsOnly (ones_of first) x → AreSupported (s ∷ sets) (λ tuple. accepted (x ∷ tuple)) (ones_of b ∷ below) →
    ((y : ℕ) → has (ones_of a) y ≡ (has (ones_of 0) y || (is_not_empty (ones_of b) && (x == y)))) → AreSupported (ones_of first ∷ s ∷ sets) accepted (ones_of a ∷ ones_of b ∷ below)
single_supported first x a b s sets below accepted one is goes = record { all = all; only = only }
  where
    here : (y : ℕ) → has (ones_of a) y ≡ (is_not_empty (ones_of b) && (x == y))
    here y = goes y ∙ ap (λ xs. has xs y || (is_not_empty (ones_of b) && (x == y))) ones_of-zero

    all : (tuple : List ℕ) → IsWithin (ones_of first ∷ s ∷ sets) tuple → accepted tuple ≡ true → IsWithin (ones_of a ∷ ones_of b ∷ below) tuple
    all [] within at = absurd within
    all (y ∷ []) within at = absurd within.1
    all (y ∷ z ∷ tuple) within at =
        let same : y ≡ x = one.alone y within.0 in
        let rest = is.all (z ∷ tuple) within.1 (ap (λ k. accepted (k ∷ z ∷ tuple)) (sym same) ∙ at) in
        (here y ∙ and_from _ _ (some_of_member (ones_of b) z rest.0) (eq-eqb x y (sym same)), rest)

    wider : (i k : ℕ) → IsThrough (s ∷ sets) (λ tuple. accepted (x ∷ tuple)) i k → IsThrough (ones_of first ∷ s ∷ sets) accepted (suc i) k
    wider i k t = record { tuple = x ∷ t.tuple; within = (one.there, t.within); at = t.at; is = t.is }

    only : (i k : ℕ) → has (slice_index_or (ones_of a ∷ ones_of b ∷ below) i []) k ≡ true → IsThrough (ones_of first ∷ s ∷ sets) accepted i k
    only zero k h =
        let parts = and_parts (is_not_empty (ones_of b)) (x == k) (sym (here k) ∙ h) in
        let m = member_of_some (ones_of b) parts.0 in
        let t = is.only 0 m.0 m.1 in
        record { tuple = x ∷ t.tuple; within = (one.there, t.within); at = eqb-true x k parts.1; is = t.is }
    only (suc i) k h = wider i k (is.only i k h)
