-- How long sets are, and what room they have.
use Rattle.multi_tree.proofs.Prelude.{◌≡◌, ℕ, ◌+◌, ◌<◌, ◌≤◌, Bool, true, false, ◌||◌, ◌&&◌, not, List, [], ◌∷◌, ◌++◌, length, drop, get_or, refl, sym, ◌∙◌, ap, subst, arith, add-one, drop-cons, length-append, ◌==◌, reverse, reverse-append, and_parts, both_ways, eqb-true, not-true, IsSet, has, union, without, parts_without, FitsOn, AllFitOn}
use Rattle.assign.specs.SetLemmas.{has-set_where}
use Rattle.assign.proofs.Masks.{rises_where}
use Rattle.find_scope.proofs.Runs.{union_sub}
use Rattle.find_scope.proofs.Counts.{sub_length, union_length}

-- ---- a set without one of its members

is_member : (v w : ℕ) → has (v ∷ []) w ≡ true → v ≡ w
is_member v w h = go (v == w) refl h
  where
    go : (b : Bool) → (v == w) ≡ b → (b || false) ≡ true → v ≡ w
    go true same h = eqb-true v w same
    go false other h = absurd (both_ways _ refl h)

left_over : (xs : List ℕ) (v w : ℕ) → w < 128 → has (without xs v) w ≡ true → (has xs w ≡ true) × (not (has (v ∷ []) w) ≡ true)
left_over xs v w low h = and_parts (has xs w) (not (has (v ∷ []) w)) (sym (has-set_where (λ u. has xs u && not (has (v ∷ []) u)) w low) ∙ h)

pub shorter : (xs : List ℕ) (v : ℕ) → IsSet xs → v < 128 → has xs v ≡ true → length (without xs v) + 1 ≤ length xs
shorter xs v set low at =
    let one : IsSet (v ∷ []) = (omega arith, low, tt) in
    let both : length (without xs v) + length (v ∷ []) ≤ length (union (without xs v) (v ∷ [])) =
    union_length (without xs v) (v ∷ []) (rises_where (λ u. has xs u && not (has (v ∷ []) u))) one apart in
    let within : length (union (without xs v) (v ∷ [])) ≤ length xs =
    sub_length (union (without xs v) (v ∷ [])) xs (rises_where (λ u. has (without xs v) u || has (v ∷ []) u)) set
    (union_sub (without xs v) (v ∷ []) xs (λ w small h. (left_over xs v w small h).0) (λ w small h. subst (λ u. has xs u ≡ true) (is_member v w h) at)) in
    omega arith
  where
    apart : (w : ℕ) → has (without xs v) w ≡ true → has (v ∷ []) w ≡ true → ⊥
    apart w h k =
        let same : v ≡ w = is_member v w k in
        let parts = left_over xs v w (subst (λ u. u < 128) same low) h in
        both_ways _ (not-true _ parts.1) k

-- ---- a stack

-- each set takes a place for itself, so there are few
pub few : (sets : List (List ℕ)) → AllFitOn sets → length sets ≤ 385
few [] fit = omega arith
few (set ∷ below) fit = let room = fit.0 in omega arith

-- the parts of a set have room where it had
pub part_fits : (set : List ℕ) (v : ℕ) (below parts : List (List ℕ)) → IsSet set → v < 128 → has set v ≡ true → length parts ≤ 3 → FitsOn set below → FitsOn (without set v) (parts ++ below)
part_fits set v below parts is low at short room =
    let less = shorter set v is low at in
    let long = length-append parts below in
    omega arith
