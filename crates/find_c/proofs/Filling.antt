-- An assignment of exactly some variables, a value at a time.
use Rattle.find_c.proofs.Prelude.{◌≡◌, ℕ, suc, ◌+◌, ◌<◌, false, cond, List, [], ◌∷◌, ◌++◌, length, take, get_or, replicate, Some, None, refl, sym, ◌∙◌, ap, arith, inl, inr, ◌⊎◌, ◌==◌, ◌≢◌, slice_index_or, slice_set, All, AllPairs, get_or-set_same, get_or-set_other, get_or-replicate, length-replicate, length-take, take_more, cases_eq, eq-eqb, ne_eqb, value_beside, assigned, IsScope}
use Rattle.std.proofs.Math.ListN.{length-set}
use Rattle.std.proofs.lemmas.List.FromFn.{fill_by_all, length-map-range_with_len}
use Rattle.std.proofs.lemmas.List.Kept.{AllPairs-from_increasing}
use Rattle.language.proofs.Beside.{value_of_assigned, beside_none, pairs_tail}

-- with one value more only the next variable has another value
beside_push : (vars p : List ℕ) (x w : ℕ) → AllPairs (λ a b. a < b) vars → length p < length vars →
    value_beside vars (p ++ x ∷ []) w ≡ cond (slice_index_or vars (length p) 0 == w) (Some x) (value_beside vars p w)
beside_push [] p x w h short = absurd (omega arith)
beside_push (v ∷ vars) [] x w h short = ap (cond (v == w) (Some x)) (beside_none vars w)
beside_push (v ∷ vars) (y ∷ p) x w h short = go (cases_eq v w) (beside_push vars p x w (pairs_tail v vars h) (omega arith))
  where
    go : (v ≡ w) ⊎ (v ≢ w) → value_beside vars (p ++ x ∷ []) w ≡ cond (slice_index_or vars (length p) 0 == w) (Some x) (value_beside vars p w) →
        cond (v == w) (Some y) (value_beside vars (p ++ x ∷ []) w) ≡ cond (slice_index_or vars (length p) 0 == w) (Some x) (cond (v == w) (Some y) (value_beside vars p w))
    go (inl same) rest =
        let other : (slice_index_or vars (length p) 0 == w) ≡ false = ne_eqb _ w (λ e. (let above = h 0 (suc (length p)) 0 (omega arith) (omega arith) in omega arith)) in
        rw (eq-eqb v w same, other) refl
    go (inr differ) rest = rw (ne_eqb v w differ) rest

pub assigned_blank : (n : ℕ) (vars : List ℕ) → replicate n None ≡ assigned n vars []
assigned_blank n vars = fill_by_all (value_beside vars []) (replicate n None) n None (length-replicate n None) (λ v low. get_or-replicate n v None None low ∙ sym (beside_none vars v))

pub length-assigned : (n : ℕ) (vars p : List ℕ) → length (assigned n vars p) ≡ n
length-assigned n vars p = length-map-range_with_len (value_beside vars p) 0 n

assigned_push : (n : ℕ) (vars p : List ℕ) (x : ℕ) → AllPairs (λ a b. a < b) vars → All (λ v. v < n) vars → length p < length vars →
    slice_set (assigned n vars p) (slice_index_or vars (length p) 0) (Some x) ≡ assigned n vars (p ++ x ∷ [])
assigned_push n vars p x rising known short = fill_by_all (value_beside vars (p ++ x ∷ [])) (slice_set (assigned n vars p) (slice_index_or vars (length p) 0) (Some x)) n None
    (length-set (assigned n vars p) (slice_index_or vars (length p) 0) (Some x) ∙ length-assigned n vars p)
    (λ w low. go w low (cases_eq (slice_index_or vars (length p) 0) w) ∙ sym (beside_push vars p x w rising short))
  where
    go : (w : ℕ) → w < n → (slice_index_or vars (length p) 0 ≡ w) ⊎ (slice_index_or vars (length p) 0 ≢ w) →
        slice_index_or (slice_set (assigned n vars p) (slice_index_or vars (length p) 0) (Some x)) w None ≡ cond (slice_index_or vars (length p) 0 == w) (Some x) (value_beside vars p w)
    go w low (inl same) = rw (eq-eqb _ w same)
        (ap (λ v. slice_index_or (slice_set (assigned n vars p) (slice_index_or vars (length p) 0) (Some x)) v None) (sym same)
        ∙ get_or-set_same (assigned n vars p) (slice_index_or vars (length p) 0) (Some x) None (let size = length-assigned n vars p in let is = known (length p) 0 short in omega arith))
    go w low (inr differ) = rw (ne_eqb _ w differ)
        (get_or-set_other (assigned n vars p) (slice_index_or vars (length p) 0) w (Some x) None (λ e. differ (sym e)) ∙ value_of_assigned n vars p w low)

-- ---- the question about a tuple of a scope

module _ (n : ℕ) (scope u : List ℕ) (is : IsScope n scope) (long : length u ≡ length scope) where
  pub assigned_more : (i v x : ℕ) → i < length scope → v ≡ get_or scope i 0 → x ≡ get_or u i 0 → slice_set (assigned n scope (take i u)) v (Some x) ≡ assigned n scope (take (i + 1) u)
  assigned_more i v x low at value =
      (λ j. slice_set (assigned n scope (take i u)) ((at ∙ ap (λ k. get_or scope k 0) (sym size)) j) (Some x))
      ∙ assigned_push n scope (take i u) x (AllPairs-from_increasing scope is.rising) is.known (omega (arith, size))
      ∙ ap (assigned n scope) (ap (λ y. take i u ++ y ∷ []) value ∙ sym (take_more u i 0 (omega arith)))
    where
      size : length (take i u) ≡ i
      size = length-take i u ∙ (omega arith)
