-- Whether a variable past the first n has a value, by sets.
use Rattle.session_store.proofs.Prelude.{◌≡◌, ◌⊎◌, ℕ, zero, suc, ◌+◌, ◌<◌, ◌≤◌, Bool, true, false, ◌&&◌, nat_le, refl, sym, ◌∙◌, ap, inl, inr, arith, is_some, cases_lt, Assignment, value_of, is_past}
use Rattle.std.proofs.Common.{◌||◌, cond, not, List, ◌∷◌}
use Rattle.std.specs.List.{filter, list_all, list_any, range_with_len}
use Rattle.std.proofs.Math.Bool.{and-false}
use Rattle.std.proofs.lemmas.Bool.{le-leb, le-ltb, lt-leb, lt-ltb}
use Rattle.assign.specs.Assignment.{variables_of}
use Rattle.assign.specs.Sets.{has, is_within, numbers, set_where}
use Rattle.assign.proofs.Fronts.{has-numbers}

module _ (q : Assignment) (n : ℕ) (few : n ≤ 128) where
  abbrev test : ℕ → Bool
  test v = is_some (value_of q v)

  abbrev Same : List ℕ → Type 0
  Same xs = not (list_all (has (numbers n)) (filter test xs)) ≡ list_any (λ v. nat_le n v && test v) xs

  one_more : (a : ℕ) (xs : List ℕ) → a < 128 → Same xs → Same (a ∷ xs)
  one_more a xs low rest = go (test a) refl (cases_lt a n)
    where
      go : (b : Bool) → test a ≡ b → (a < n) ⊎ (n ≤ a) →
          not (list_all (has (numbers n)) (cond b (a ∷ filter test xs) (filter test xs))) ≡ ((nat_le n a && test a) || list_any (λ v. nat_le n v && test v) xs)
      go false off where_a =
          rest ∙ sym (ap (λ t. (nat_le n a && t) || list_any (λ v. nat_le n v && test v) xs) off ∙ ap (λ t. t || list_any (λ v. nat_le n v && test v) xs) (and-false (nat_le n a)))
      go true on (inl below) =
          ap (λ t. not (t && list_all (has (numbers n)) (filter test xs))) (has-numbers n a few low ∙ lt-ltb a n below)
          ∙ rest ∙ sym (ap (λ t. (t && test a) || list_any (λ v. nat_le n v && test v) xs) (lt-leb n a below))
      go true on (inr past) =
          ap (λ t. not (t && list_all (has (numbers n)) (filter test xs))) (has-numbers n a few low ∙ le-ltb a n past)
          ∙ sym ((λ i. (le-leb n a past i && on i) || list_any (λ v. nat_le n v && test v) xs))

  all_of : (a k : ℕ) → a + k ≤ 128 → Same (range_with_len a k)
  all_of a zero fits = refl
  all_of a (suc k) fits = one_more a (range_with_len (a + 1) k) (omega arith) (all_of (a + 1) k (omega arith))

  pub past_by_sets : not (is_within (variables_of q) (numbers n)) ≡ is_past n q
  unfolding set_where
  past_by_sets = all_of 0 128 (omega arith)
