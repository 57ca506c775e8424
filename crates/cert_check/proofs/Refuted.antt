-- What trees of tokens say: no complete assignment that goes on from a prefix is accepted and violates the candidate.
use Rattle.cert_check.proofs.Prelude.{◌≡◌, ℕ, ◌<◌, Bool, true, false, ◌&&◌, not, List, [], ◌∷◌, ◌++◌, length, Option, Some, None, refl, sym, ◌∙◌, ap, subst, arith, append_assoc, length-append, All, slice_get, option_map_or, All-head, All-nil, All-cons, get_or_from_slice_get, slice_get_within, and_parts, both_ways, ltb-true, false_from_ne_true, Assignment, tuple_on, covers, Candidate, is_in, Language, IsLanguage, IsCandidate, IsImplied, variable_count, range_of, scope_of, violates, accepts, order_of, assignment_of, are_ranged, accepted_at, tuple_fits, HasMore, assigned_more, violates_more, satisfies_more, ranged_from, order_small, whole_prefix, covers_all, length-tuple_on, scope_small, long_order, Token, Branch, Holds, Item, violates_item, is_lawful_node, children, are_trees, refutes}
use Rattle.cert_check.proofs.Within.{IsRanged, next_of, ranged_front, ranged_last, all_among}
use Rattle.shared_lemmas.proofs.Lists.{all_left, all_right}

-- ---- what is closed

-- a whole list of values goes on from a prefix in no way
abbrev IsClosed : List ℕ → List ℕ → Type 0
IsClosed whole prefix = (rest : List ℕ) → prefix ++ rest ≡ whole → ⊥

module _ (l : Language) (network : List Candidate) (c : Candidate) (lawful : IsLanguage l) (is_c : IsCandidate l c) (whole : List ℕ) (long : length whole ≡ variable_count l) (small : All (λ x. x < l.value_count) whole) (ranged : IsRanged l c whole)
    (accepted : accepts l network (assignment_of l c whole) ≡ true) (bad : violates l c (assignment_of l c whole) ≡ true) where
  more_at : (prefix rest : List ℕ) → prefix ++ rest ≡ whole → HasMore (assignment_of l c prefix) (assignment_of l c whole)
  more_at prefix rest e = subst (λ (w : List ℕ). HasMore (assignment_of l c prefix) (assignment_of l c w)) e (assigned_more (variable_count l) (order_of l c) prefix rest)

  not_both : (g b : Bool) → (g && b) ≡ true → (g && not b) ≡ true → ⊥
  not_both true true h k = cc
  not_both true false h k = cc
  not_both false b h k = cc

  closed_by_item : (prefix : List ℕ) (o : Option Candidate) (i : ℕ) → slice_get network i ≡ o → violates_item l network (assignment_of l c prefix) i ≡ true → IsClosed whole prefix
  closed_by_item prefix None i e h rest is = let no : false ≡ true = sym (ap (λ (o : Option Candidate). option_map_or (λ d. violates l d (assignment_of l c prefix)) o false) e) ∙ h in cc
  closed_by_item prefix (Some d) i e h rest is =
      let there : violates l d (assignment_of l c prefix) ≡ true = sym (ap (λ (o : Option Candidate). option_map_or (λ d. violates l d (assignment_of l c prefix)) o false) e) ∙ h in
      both_ways _ (ap (λ (b : Candidate). violates l b (assignment_of l c whole)) (sym (get_or_from_slice_get network i d d e)) ∙ accepted_at l network (assignment_of l c whole) accepted i d (slice_get_within network i d e))
      (violates_more l d _ _ (more_at prefix rest is) there)

  closed_by : (prefix : List ℕ) (token : Token) → is_lawful_node l network c prefix token ≡ true → All (IsClosed whole) (children l c prefix token) → IsClosed whole prefix
  closed_by prefix Holds h below rest is = not_both (covers (assignment_of l c whole) (scope_of l c)) _ (satisfies_more l c _ _ (more_at prefix rest is) h) bad
  closed_by prefix (Item i) h below rest is = closed_by_item prefix (slice_get network i) i refl h rest is
  closed_by prefix Branch h below [] is = absurd (let short = ltb-true (length prefix) (variable_count l) h in let all = ap length is in let e = length-append prefix [] in omega (arith, short, all, e, long))
  closed_by prefix Branch h below (x ∷ rest) is =
      let fits : All (λ y. y < l.value_count) (x ∷ rest) = all_right (λ y. y < l.value_count) prefix (x ∷ rest) (subst (All (λ y. y < l.value_count)) (sym is) small) in
      let further : (prefix ++ x ∷ []) ++ rest ≡ whole = append_assoc prefix (x ∷ []) rest ∙ is in
      let within = ranged_last l lawful c is_c prefix x (ltb-true (length prefix) (variable_count l) h) (ranged_front l c (prefix ++ x ∷ []) rest (subst (IsRanged l c) (sym further) ranged)) in
      all_among (IsClosed whole) (λ y. prefix ++ y ∷ []) (is_in (range_of l (next_of l c prefix))) 0 l.value_count x below (omega arith) (let low = All-head (λ y. y < l.value_count) x rest fits in omega (arith, low)) within rest further

  closed : (tokens : List Token) (later : List (List ℕ)) → are_trees l network c later tokens ≡ true → All (IsClosed whole) later
  unfolding are_trees
  closed [] [] h = All-nil (IsClosed whole)
  closed [] (prefix ∷ later) h = let no : ⊥ = cc in absurd no
  closed (token ∷ tokens) [] h = All-nil (IsClosed whole)
  closed (token ∷ tokens) (prefix ∷ later) h =
      let parts = and_parts (is_lawful_node l network c prefix token) _ h in
      let rest = closed tokens (children l c prefix token ++ later) parts.1 in
      All-cons (IsClosed whole) prefix later
      (closed_by prefix token parts.0 (all_left (IsClosed whole) (children l c prefix token) later rest))
      (all_right (IsClosed whole) (children l c prefix token) later rest)

pub refuted_is_implied : (l : Language) (network : List Candidate) (c : Candidate) (tokens : List Token) → IsLanguage l → IsCandidate l c → refutes l network c tokens ≡ true → IsImplied l network c
refuted_is_implied l network c tokens lawful is h = λ e question complete accepted. false_from_ne_true _ (λ bad.
    let small = scope_small l lawful c is in
    let values : List ℕ = tuple_on e (order_of l c) in
    let same = whole_prefix l c small e question.size complete in
    All-head (IsClosed values) [] []
    (closed l network c lawful is values (length-tuple_on e (order_of l c) ∙ long_order l lawful c is)
    (tuple_fits l.value_count e (order_of l c) question.values_fit (covers_all e (order_of l c) complete (λ k d low. (let at = order_small l c small k d low in let size = question.size in omega arith))))
    (subst (λ (x : Assignment). are_ranged l x ≡ true) (sym same) (ranged_from l e question.within))
    (subst (λ (x : Assignment). accepts l network x ≡ true) (sym same) accepted)
    (subst (λ (x : Assignment). violates l c x ≡ true) (sym same) bad)
    tokens ([] ∷ []) h)
    values refl)
