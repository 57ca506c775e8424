-- What a question violates on a scope.
use Rattle.bias_store.proofs.Prelude.{◌≡◌, ℕ, Bool, true, false, cond, ◌&&◌, not, [], Some, None, refl, sym, ◌∙◌, ap, slice_index_or, filter, Assignment, covers, tuple_on, place, holds, Language, scope_at, relations_on, relation_of, place_on, violates, ones_of, ones_of-zero}
use Rattle.bias_store.proofs.Members.{candidate_at}

-- nothing of no relations
pub none_of_none : (l : Language) (s : ℕ) (q : Assignment) (relations : ℕ) → relations ≡ 0 → ones_of 0 ≡ filter (λ r. violates l (candidate_at s r) q) (ones_of relations)
none_of_none l s q relations none = ones_of-zero ∙ sym (ap (filter (λ r. violates l (candidate_at s r) q)) (ap ones_of none ∙ ones_of-zero))

-- nothing, where it doesn't cover the scope
pub bare : (l : Language) (s : ℕ) (q : Assignment) → None ≡ place_on l s q → (r : ℕ) → violates l (candidate_at s r) q ≡ false
bare l s q none r = ap (λ b. b && not (holds l.value_count (relation_of l (candidate_at s r)) (tuple_on q (scope_at l s)))) (go (covers q (scope_at l s)) refl none)
  where
    go : (b : Bool) → covers q (scope_at l s) ≡ b → None ≡ cond b (Some (place l.value_count (tuple_on q (scope_at l s)))) None → covers q (scope_at l s) ≡ false
    go true is h = cc
    go false is h = is

-- the relations that are false at the tuple's place, where it does
pub covered : (l : Language) (s : ℕ) (q : Assignment) (p r : ℕ) → Some p ≡ place_on l s q → violates l (candidate_at s r) q ≡ not (slice_index_or (slice_index_or (relations_on l s) r []) p false)
covered l s q p r some = go (covers q (scope_at l s)) refl some
  where
    here : ℕ
    here = place l.value_count (tuple_on q (scope_at l s))

    go : (b : Bool) → covers q (scope_at l s) ≡ b → Some p ≡ cond b (Some (place l.value_count (tuple_on q (scope_at l s)))) None →
        violates l (candidate_at s r) q ≡ not (slice_index_or (slice_index_or (relations_on l s) r []) p false)
    go true is h =
        let same : p ≡ place l.value_count (tuple_on q (scope_at l s)) = cc in
        ap (λ b. b && not (holds l.value_count (relation_of l (candidate_at s r)) (tuple_on q (scope_at l s)))) is
        ∙ ap (λ at. not (slice_index_or (slice_index_or (relations_on l s) r []) at false)) (sym same)
    go false is h = cc
