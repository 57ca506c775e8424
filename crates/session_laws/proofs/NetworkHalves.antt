-- What a halving gets that a network answers.
use Rattle.session_laws.proofs.Prelude.{◌≡◌, ℕ, ◌<◌, ◌≤◌, Bool, true, false, ◌&&◌, not, ◌||◌, List, [], ◌∷◌, length, refl, sym, ◌∙◌, ap, subst, arith, inl, inr, ◌⊎◌, ◌==◌, slice_index_or, Any, and_parts, and_from, both_ways, cases_Bool, eqb-true, has, without, is_within, has-set_where, same_sets, within_sub, sub_within, got_is_part, got_is_minimal, Candidate, restrict, IsCandidate, scope_of, violates, accepted_at, accepted_from, accepts_on, IsViolatedOn, NetworkHalves, both_true}
use Rattle.find_scope.specs.Laws.{IsTest, IsMinimal}
use Rattle.session_laws.proofs.Restrict.{violates_restrict, rejecting, rising_scope, accepts_narrower}

pub none_within : (xs : List ℕ) → 1 ≤ length xs → is_within xs [] ≡ true → ⊥
none_within [] h e = omega arith
none_within (x ∷ xs) h e = both_ways _ refl e

pub network_halves : NetworkHalves
network_halves l network e set replies found left lawful legal r h rejects true_to = record { minimal = minimal; by_one = (bad.0, bad.1, bad.2, bad.3, one) }
  where
    test : IsTest set (accepts_on l network e)
    test = record {
      nothing = accepted_from l network (restrict e []) (λ k d low bad.
          let is : IsCandidate l (slice_index_or network k d) = legal k d low in
          none_within (scope_of l (slice_index_or network k d)) (lawful.scopes (slice_index_or network k d).scope [] is.scope).not_empty
          (and_parts _ _ (sym (violates_restrict l (slice_index_or network k d) e []) ∙ bad)).0);
      parts = λ part whole p q within accepted. accepts_narrower l lawful network legal e part whole (within_sub part whole within) accepted;
      rejects = rejects;
    }

    minimal : IsMinimal (accepts_on l network e) found
    minimal = got_is_minimal set replies found left (accepts_on l network e) r h test true_to

    bad : Any (λ c. violates l c (restrict e found) ≡ true) network
    bad = rejecting l network (restrict e found) minimal.rejected

    c : Candidate
    c = bad.1

    is : IsCandidate l c
    is = subst (IsCandidate l) bad.3 (legal bad.0 c bad.2)

    parts : (is_within (scope_of l c) found ≡ true) × (violates l c e ≡ true)
    parts = and_parts (is_within (scope_of l c) found) (violates l c e) (sym (violates_restrict l c e found) ∙ bad.4)

    there : (v : ℕ) → v < 128 → has found v ≡ true → has (scope_of l c) v ≡ true
    there v low at = go (cases_Bool (has (scope_of l c) v))
      where
        stays : has (scope_of l c) v ≡ false → (z : ℕ) → z < 128 → has (scope_of l c) z ≡ true → has (without found v) z ≡ true
        stays off z below k = has-set_where (λ u. has found u && not (has (v ∷ []) u)) z below ∙ and_from _ _ (within_sub (scope_of l c) found parts.0 z below k) (other (v == z) refl)
          where
            other : (b : Bool) → (v == z) ≡ b → not (b || false) ≡ true
            other true e = absurd (both_ways _ (ap (has (scope_of l c)) (sym (eqb-true v z e)) ∙ off) k)
            other false e = refl

        go : (has (scope_of l c) v ≡ true) ⊎ (has (scope_of l c) v ≡ false) → has (scope_of l c) v ≡ true
        go (inl on) = on
        go (inr off) = absurd (both_ways (violates l c (restrict e (without found v)))
            (ap (λ (x : Candidate). violates l x (restrict e (without found v))) (sym bad.3) ∙ accepted_at l network (restrict e (without found v)) (minimal.tight v at) bad.0 c bad.2)
            (violates_restrict l c e (without found v) ∙ and_from _ _ (sub_within (scope_of l c) (without found v) 0 (rising_scope l lawful c is) (stays off)) parts.1))

    one : IsViolatedOn l e found c
    one = record {
      scope = same_sets (scope_of l c) found (rising_scope l lawful c is) (got_is_part set replies found left r h).set_of
          (λ v low. both_true _ _ (within_sub (scope_of l c) found parts.0 v low) (there v low));
      violated = bad.4;
    }
