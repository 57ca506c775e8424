-- A tuple as a question about exactly one scope.
use Rattle.session_laws.proofs.Prelude.{◌≡◌, ℕ, ◌+◌, ◌<◌, ◌≤◌, Bool, true, false, cond, ◌||◌, ◌&&◌, not, List, [], ◌∷◌, length, map, Some, None, refl, sym, ◌∙◌, ap, arith, inl, inr, ◌⊎◌, ◌==◌, All, slice_index_or, is_some, unwrap_or, All-head, All-tail, All-nil, All-cons, All-weaker, length-map-range_with_len, get_or-eq_default, list_all-from_AllPass, list_any_at, list_all-append, cases_lt, ne_eqb, eq-eqb, both_ways, true_from_ne_false, has, Rises, value_of, value_beside, assigned, covers, tuple_on, variables_of, Candidate, holds, Language, IsLanguage, variable_count, relations_on, violates, accepts, IsNetwork, has_scope, Choice, allows, scene_of, on_scope, value_of_assigned, scope_rises, learn, only_there, rejected_on, none_on, set_where-same, canonical}
use Rattle.language.proofs.InOrder.{all_low}

-- ---- the values of such a question

pub beside_some : (vars values : List ℕ) (v : ℕ) → length values ≡ length vars → is_some (value_beside vars values v) ≡ has vars v
beside_some [] values v e = refl
beside_some (w ∷ vars) [] v e = absurd (omega arith)
beside_some (w ∷ vars) (x ∷ values) v e = go (w == v) (beside_some vars values v (omega arith))
  where
    go : (b : Bool) → is_some (value_beside vars values v) ≡ has vars v → is_some (cond b (Some x) (value_beside vars values v)) ≡ (b || has vars v)
    go true rest = refl
    go false rest = rest

pub variables_of_assigned : (n : ℕ) (vars values : List ℕ) → n ≤ 128 → Rises 0 vars → All (λ v. v < n) vars → length values ≡ length vars → variables_of (assigned n vars values) ≡ vars
variables_of_assigned n vars values h rising small e =
    set_where-same _ _ (λ v low. go v (cases_lt v n)) ∙ canonical vars rising
  where
    none_above : (v : ℕ) (xs : List ℕ) → n ≤ v → All (λ w. w < n) xs → has xs v ≡ false
    none_above v [] high all = refl
    none_above v (x ∷ xs) high all = (λ i. ne_eqb x v (λ e. (let first = All-head (λ w. w < n) x xs all in omega arith)) i || none_above v xs high (All-tail (λ w. w < n) x xs all) i)

    go : (v : ℕ) → (v < n) ⊎ (n ≤ v) → is_some (value_of (assigned n vars values) v) ≡ has vars v
    go v (inl low) = ap is_some (value_of_assigned n vars values v low) ∙ beside_some vars values v e
    go v (inr high) = ap is_some (get_or-eq_default (assigned n vars values) None {n = v} (omega (arith, length-map-range_with_len (value_beside vars values) 0 n))) ∙ sym (none_above v vars high small)

map_agree : (P : ℕ → Type 0) (f g : ℕ → ℕ) (xs : List ℕ) → All P xs → ((v : ℕ) → P v → f v ≡ g v) → map f xs ≡ map g xs
map_agree P f g [] all h = refl
map_agree P f g (x ∷ xs) all h = λ i. h x (All-head P x xs all) i ∷ map_agree P f g xs (All-tail P x xs all) h i

beside_tuple : (a : ℕ) (vars values : List ℕ) → Rises a vars → length values ≡ length vars → map (λ v. unwrap_or (value_beside vars values v) 0) vars ≡ values
beside_tuple a [] [] r e = refl
beside_tuple a [] (x ∷ values) r e = absurd (omega arith)
beside_tuple a (w ∷ vars) [] r e = absurd (omega arith)
beside_tuple a (w ∷ vars) (x ∷ values) r e =
    (λ i. ap (λ b. unwrap_or (cond b (Some x) (value_beside vars values w)) 0) (eq-eqb w w refl) i
    ∷ (map_agree (λ v. w + 1 ≤ v) (λ v. unwrap_or (cond (w == v) (Some x) (value_beside vars values v)) 0) (λ v. unwrap_or (value_beside vars values v) 0) vars (all_low (w + 1) vars r.2)
    (λ v low. ap (λ b. unwrap_or (cond b (Some x) (value_beside vars values v)) 0) (ne_eqb w v (λ same. omega arith)))
    ∙ beside_tuple (w + 1) vars values r.2 (omega arith)) i)

pub tuple_on_assigned : (n : ℕ) (vars values : List ℕ) → Rises 0 vars → All (λ v. v < n) vars → length values ≡ length vars → tuple_on (assigned n vars values) vars ≡ values
tuple_on_assigned n vars values r small e =
    map_agree (λ v. v < n) _ _ vars small (λ v low. ap (λ o. unwrap_or o 0) (value_of_assigned n vars values v low)) ∙ beside_tuple 0 vars values r e

pub covers_assigned : (n : ℕ) (vars values : List ℕ) → All (λ v. v < n) vars → length values ≡ length vars → covers (assigned n vars values) vars ≡ true
covers_assigned n vars values small e = list_all-from_AllPass (λ v. is_some (value_of (assigned n vars values) v)) vars (λ k d low.
    ap is_some (value_of_assigned n vars values (slice_index_or vars k d) (small k d low)) ∙ beside_some vars values (slice_index_or vars k d) e
    ∙ list_any_at (λ x. x == slice_index_or vars k d) vars k d low (eq-eqb _ _ refl))

-- ---- what such a question tells of candidates

module _ (l : Language) (lawful : IsLanguage l) (s : ℕ) (is_s : s < length l.scopes) (u : List ℕ) (long : length u ≡ length (slice_index_or l.scopes s [])) where
  pub exact_question : variables_of (on_scope l s u) ≡ slice_index_or l.scopes s []
  exact_question =
      let is = lawful.scopes s [] is_s in
      variables_of_assigned (variable_count l) (slice_index_or l.scopes s []) u lawful.few_variables
      (scope_rises (variable_count l) (slice_index_or l.scopes s []) lawful.few_variables is.rising is.known) is.known long

  pub violates_there : (r : ℕ) → violates l (record { scope = s; rel = r }) (on_scope l s u) ≡ not (allows (scene_of l s) u (Some r))
  violates_there r =
      let is = lawful.scopes s [] is_s in
      let rises : Rises 0 (slice_index_or l.scopes s []) = scope_rises (variable_count l) (slice_index_or l.scopes s []) lawful.few_variables is.rising is.known in
      λ i. covers_assigned (variable_count l) (slice_index_or l.scopes s []) u is.known long i
      && not (holds l.value_count (slice_index_or (relations_on l s) r []) (tuple_on_assigned (variable_count l) (slice_index_or l.scopes s []) u rises is.known long i))

  pub accepted_elsewhere : (network : List Candidate) → IsNetwork l network → has_scope network s ≡ false → accepts l network (on_scope l s u) ≡ true
  accepted_elsewhere network all none = true_from_ne_false _ (λ rejected.
      both_ways _ (none_on l network s (on_scope l s u) none)
      (rejected_on l network all s (on_scope l s u)
      (only_there l lawful (record { scope = s; rel = 0 }) (record { scope = is_s; rel = lawful.used s is_s }) (on_scope l s u) exact_question) rejected))

  -- the network with a choice learned accepts the question where the choice allows the tuple
  pub accepts_learned : (network : List Candidate) → IsNetwork l network → has_scope network s ≡ false → (c : Choice) → accepts l (learn network s c) (on_scope l s u) ≡ allows (scene_of l s) u c
  accepts_learned network all none None = accepted_elsewhere network all none
  accepts_learned network all none (Some r) =
      list_all-append (λ c. not (violates l c (on_scope l s u))) network (record { scope = s; rel = r } ∷ [])
      ∙ (λ i. accepted_elsewhere network all none i && (not (violates_there r i) && true)) ∙ twice (allows (scene_of l s) u (Some r))
    where
      twice : (b : Bool) → (not (not b) && true) ≡ b
      twice true = refl
      twice false = refl
