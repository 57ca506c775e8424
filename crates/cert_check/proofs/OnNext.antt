-- What is violated with a value more, and not without it, has the variable in its scope.
use Rattle.cert_check.proofs.Prelude.{◌≡◌, ℕ, ◌<◌, ◌≤◌, Bool, true, false, ◌&&◌, ◌||◌, List, [], ◌∷◌, length, Option, Some, None, refl, sym, ◌∙◌, ap, arith, All, ◌==◌, is_some, unwrap_or, slice_get, slice_set, get_or, option_map_or, position, both_ways, eq-eqb, and_parts, false_from_ne_true, get_or-set_other, All-head, get_or_from_slice_get, slice_get_within, has, Assignment, value_of, covers, tuple_on, assigned, Candidate, Language, IsLanguage, IsCandidate, IsScope, variable_count, scope_of, violates, IsNetwork, order_of, assignment_of, value_of_assigned, beside_none, Token, Branch, Holds, Item, AreOn, node_of}
use Rattle.cert_check.proofs.Finding.{none_found}

-- ---- a value more

-- a variable outside a scope tells nothing of the values there
same_beside : (e : Assignment) (v : ℕ) (o : Option ℕ) (scope : List ℕ) → has scope v ≡ false → (covers (slice_set e v o) scope ≡ covers e scope) × (tuple_on (slice_set e v o) scope ≡ tuple_on e scope)
same_beside e v o [] out = (refl, refl)
same_beside e v o (w ∷ scope) out = go (w == v) refl out (same_beside e v o scope)
  where
    go : (b : Bool) → (w == v) ≡ b → (b || has scope v) ≡ false → (has scope v ≡ false → (covers (slice_set e v o) scope ≡ covers e scope) × (tuple_on (slice_set e v o) scope ≡ tuple_on e scope)) →
        (covers (slice_set e v o) (w ∷ scope) ≡ covers e (w ∷ scope)) × (tuple_on (slice_set e v o) (w ∷ scope) ≡ tuple_on e (w ∷ scope))
    go true is h rest = absurd (let no : ⊥ = cc in no)
    go false is h rest =
        let other : value_of (slice_set e v o) w ≡ value_of e w = get_or-set_other e v w o None (λ same. both_ways _ is (eq-eqb w v same)) in
        let below = rest h in
        ((λ i. is_some (other i) && below.0 i), (λ i. unwrap_or (other i) 0 ∷ below.1 i))

violates_beside : (l : Language) (d : Candidate) (e : Assignment) (v : ℕ) (o : Option ℕ) → has (scope_of l d) v ≡ false → violates l d (slice_set e v o) ≡ violates l d e
violates_beside l d e v o out =
    let same = same_beside e v o (scope_of l d) out in
    let covered = same.0 in
    let tuple = same.1 in
    cc

-- ---- without a value

bare : (n : ℕ) (order scope : List ℕ) → IsScope n scope → covers (assigned n order []) scope ≡ false
bare n order [] is = absurd (let some = is.not_empty in omega (arith, some))
bare n order (w ∷ scope) is =
    ap (λ o. is_some o && covers (assigned n order []) scope) (value_of_assigned n order [] w (All-head (λ v. v < n) w scope is.known) ∙ beside_none order w)

none_at_start : (l : Language) (c d : Candidate) → IsLanguage l → IsCandidate l d → violates l d (assignment_of l c []) ≡ false
none_at_start l c d lawful is = false_from_ne_true _ (λ bad. both_ways _ (bare (variable_count l) (order_of l c) (scope_of l d) (lawful.scopes d.scope [] is.scope)) (and_parts (covers (assignment_of l c []) (scope_of l d)) _ bad).0)

pub none_first : (l : Language) (network : List Candidate) (c : Candidate) → IsLanguage l → IsNetwork l network → position (λ d. violates l d (assignment_of l c [])) network ≡ None
none_first l network c lawful known = none_found (λ d. violates l d (assignment_of l c [])) network (λ k d low. none_at_start l c (get_or network k d) lawful (known k d low))

-- ---- with one value more

pub branch_none : (o : Option ℕ) (b : Bool) → Branch ≡ node_of o b → o ≡ None
branch_none None b h = refl
branch_none (Some i) b h = absurd (let no : ⊥ = cc in no)

module _ (l : Language) (network : List Candidate) (e : Assignment) (none : All (λ d. violates l d e ≡ false) network) where
  pub are_on : (v x : ℕ) → AreOn l network v (slice_set e v (Some x))
  are_on v x i bad = go (slice_get network i) refl bad
    where
      go : (o : Option Candidate) → slice_get network i ≡ o → option_map_or (λ d. violates l d (slice_set e v (Some x))) o false ≡ true → option_map_or (λ d. has (scope_of l d) v) o false ≡ true
      go None there bad = cc
      go (Some d) there bad = from (has (scope_of l d) v) refl
        where
          before : violates l d e ≡ false
          before = ap (λ (b : Candidate). violates l b e) (sym (get_or_from_slice_get network i d d there)) ∙ none i d (slice_get_within network i d there)

          from : (b : Bool) → has (scope_of l d) v ≡ b → has (scope_of l d) v ≡ true
          from true is = is
          from false out = absurd (both_ways _ (violates_beside l d e v (Some x) out ∙ before) bad)
