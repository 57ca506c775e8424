-- The certificate that is made is good.
use Rattle.cert_check.proofs.Prelude.{◌≡◌, ℕ, zero, suc, ◌-◌, ◌<◌, ◌≤◌, Bool, true, false, ◌&&◌, List, [], ◌∷◌, ◌++◌, length, map, Option, Some, None, refl, sym, ◌∙◌, ap, subst, arith, inl, inr, ◌⊎◌, append_assoc, length-append, ◌==◌, All, IsTrue, position, slice_index_or, flat_map, option_map_or, append-nil, All-head, All-tail, All-nil, All-push, All-map, All-filter, filter_passes, position-Some, slice_get-get_or, and_from, not_from_false, lt-ltb, eq-eqb, Answer, Candidate, Language, IsLanguage, IsCandidate, IsImplied, variable_count, values_of, candidates, number_of, violates, IsCovered, is_struck, has_scope, kept, order_of, assignment_of, satisfies, numbered, any-filter, any-map, any_candidate, Token, Branch, Holds, Item, Refutation, is_earned, has_refutation, IsGood, refutation_of, is_lawful_node, children, are_trees, refutes, node_of, node_at, tree_from, tree_of}
use Rattle.cert_check.proofs.Listing.{is_kept, implied_if_kept}
use Rattle.cert_check.proofs.Trees.{branch_has_room, no_children}
use Rattle.cert_check.proofs.Within.{IsNext, IsRanged, all_next, ranged_none, ranged_longer}
use Rattle.language.proofs.Members.{all_candidates}

-- ---- the tree of an implied candidate refutes it

module _ (l : Language) (network : List Candidate) (c : Candidate) (lawful : IsLanguage l) (is : IsCandidate l c) (implied : IsImplied l network c) where
  -- a prefix that may stand in the tree
  record Fits (prefix : List ℕ) : Type 0 where
    small : All (λ x. x < l.value_count) prefix
    ranged : IsRanged l c prefix
    short : length prefix ≤ variable_count l

  lawful_node : (prefix : List ℕ) → Fits prefix → is_lawful_node l network c prefix (node_at l network c prefix) ≡ true
  lawful_node prefix fits = go (position (λ d. violates l d (assignment_of l c prefix)) network) refl (satisfies l c (assignment_of l c prefix)) refl
    where
      go : (o : Option ℕ) → position (λ d. violates l d (assignment_of l c prefix)) network ≡ o → (b : Bool) → satisfies l c (assignment_of l c prefix) ≡ b → is_lawful_node l network c prefix (node_of o b) ≡ true
      go (Some i) e b s =
          let none : Candidate = record { scope = 0; rel = 0 } in
          let found = position-Some (λ d. violates l d (assignment_of l c prefix)) network i none e in
          ap (λ (o : Option Candidate). option_map_or (λ d. violates l d (assignment_of l c prefix)) o false) (slice_get-get_or network i none found.0) ∙ found.1
      go None e true s = s
      go None e false s = lt-ltb (length prefix) (variable_count l) (branch_has_room l network c lawful is implied prefix fits.small fits.ranged fits.short (λ i. node_of (e i) (s i)))

  abbrev TreesAt : ℕ → Type 0
  TreesAt k = (prefix : List ℕ) (later : List (List ℕ)) (tokens : List Token) → variable_count l - length prefix ≡ k → Fits prefix → are_trees l network c later tokens ≡ true → are_trees l network c (prefix ∷ later) (tree_from l network c k prefix ++ tokens) ≡ true

  below_all : (k : ℕ) → TreesAt k → (p : List ℕ) → (xs : List ℕ) → variable_count l - length p ≡ suc k → Fits p → All (IsNext l lawful c is p) xs → (later : List (List ℕ)) (tokens : List Token) → are_trees l network c later tokens ≡ true →
      are_trees l network c (map (λ x. p ++ x ∷ []) xs ++ later) (flat_map (tree_from l network c k) (map (λ x. p ++ x ∷ []) xs) ++ tokens) ≡ true
  below_all k trees p [] left fits all later tokens h = h
  below_all k trees p (x ∷ xs) left fits all later tokens h =
      let first : List ℕ = p ++ x ∷ [] in
      let others : List (List ℕ) = map (λ y. p ++ y ∷ []) xs in
      let long = length-append p (x ∷ []) in
      let next : IsNext l lawful c is p x = All-head (IsNext l lawful c is p) x xs all in
      subst (λ (ts : List Token). are_trees l network c (first ∷ (others ++ later)) ts ≡ true) (sym (append_assoc (tree_from l network c k first) (flat_map (tree_from l network c k) others) tokens))
      (trees first (others ++ later) (flat_map (tree_from l network c k) others ++ tokens) (omega (arith, left, long))
      (record {
        small = All-push (λ y. y < l.value_count) p x fits.small next.fits;
        ranged = ranged_longer l lawful c is p x (omega (arith, left)) fits.ranged next.within;
        short = omega (arith, left, long);
      })
      (below_all k trees p xs left fits (All-tail (IsNext l lawful c is p) x xs all) later tokens h))

  trees_lawful : (k : ℕ) → TreesAt k
  unfolding are_trees tree_from
  trees_lawful zero prefix later tokens left fits h = and_from _ _ (lawful_node prefix fits)
      (subst (λ (ps : List (List ℕ)). are_trees l network c (ps ++ later) tokens ≡ true) (sym (no_children l network c (node_at l network c prefix) prefix (λ branch.
      (let low = branch_has_room l network c lawful is implied prefix fits.small fits.ranged fits.short branch in omega (arith, low, left))))) h)
  trees_lawful (suc k) prefix later tokens left fits h = and_from _ _ (lawful_node prefix fits) (go (trees_lawful k) (node_at l network c prefix))
    where
      go : TreesAt k → (token : Token) → are_trees l network c (children l c prefix token ++ later) (flat_map (tree_from l network c k) (children l c prefix token) ++ tokens) ≡ true
      go trees Branch = below_all k trees prefix (values_of l (slice_index_or (order_of l c) (length prefix) 0)) left fits (all_next l lawful c is prefix (omega (arith, left))) later tokens h
      go trees Holds = h
      go trees (Item i) = h

  nothing_left : are_trees l network c [] [] ≡ true
  unfolding are_trees
  nothing_left = refl

  pub tree_refutes : refutes l network c (tree_of l network c) ≡ true
  tree_refutes = subst (λ (ts : List Token). are_trees l network c ([] ∷ []) ts ≡ true) (append-nil (tree_of l network c))
      (trees_lawful (variable_count l) [] [] [] (omega arith) (record { small = All-nil (λ x. x < l.value_count); ranged = ranged_none l c; short = omega arith }) nothing_left)

-- ---- what is listed

pub all_kept : (l : Language) (t : List Answer) (network : List Candidate) (Q : Candidate → Type 0) → ((c : Candidate) → IsCandidate l c → is_kept l t network c ≡ true → Q c) → All Q (kept l t network)
all_kept l t network Q h = λ k d low. h _ (All-filter (is_kept l t network) (IsCandidate l) (candidates l) (all_candidates l) k d low) (filter_passes (is_kept l t network) (candidates l) k d low)

pub made_is_good : (l : Language) (network : List Candidate) (t : List Answer) → IsLanguage l → IsCovered l network t → IsGood l network t (map (refutation_of l network) (kept l t network))
made_is_good l network t lawful covered = record {
  agreeing = covered.agreeing;
  one_a_scope = covered.one_a_scope;
  begun = covered.begun;
  told = covered.told;
  earned = All-map (λ r. IsTrue (is_earned l network r)) (refutation_of l network) (kept l t network) (all_kept l t network (λ c. IsTrue (is_earned l network (refutation_of l network c))) earned);
  rest = λ c is free. listed c is free (is_struck l t c) refl;
}
  where
    earned : (c : Candidate) → IsCandidate l c → is_kept l t network c ≡ true → IsTrue (is_earned l network (refutation_of l network c))
    earned c is h = subst (λ (d : Candidate). refutes l network d (tree_of l network c) ≡ true) (sym ((numbered l).there c (record { scope = 0; rel = 0 }) is)) (tree_refutes l network c lawful is (implied_if_kept l t network c covered is h))

    listed : (c : Candidate) → IsCandidate l c → has_scope network c.scope ≡ false → (struck : Bool) → is_struck l t c ≡ struck → IsTrue (is_struck l t c) ⊎ IsTrue (has_refutation (map (refutation_of l network) (kept l t network)) (number_of l c))
    listed c is free true e = inl e
    listed c is free false e = inr (
        any-map (λ (r : Refutation). r.candidate == number_of l c) (refutation_of l network) (kept l t network)
        ∙ any-filter (λ d. number_of l d == number_of l c) (is_kept l t network) (candidates l)
        ∙ any_candidate l (λ d. is_kept l t network d && (number_of l d == number_of l c)) c is
        (and_from _ _ (and_from _ _ (not_from_false _ e) (not_from_false _ free)) (eq-eqb (number_of l c) (number_of l c) refl)))
