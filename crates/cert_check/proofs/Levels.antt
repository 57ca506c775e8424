-- The siblings of a prefix's values, as the walk through a tree goes on.
use Rattle.cert_check.proofs.Prelude.{◌≡◌, ◌⊎◌, ℕ, zero, suc, ◌+◌, ◌-◌, ◌<◌, ◌≤◌, true, are_ranged, List, [], ◌∷◌, ◌++◌, length, take, get_or, Option, Some, None, refl, sym, ◌∙◌, ap, subst, arith, inl, inr, add-one, length-append, cases_lt, position, get_or-take, take_more, take_all, slice_get, slice_index_or, slice_get-get_or, slice_set, option_and_then, Assignment, Candidate, Language, IsLanguage, IsCandidate, IsNetwork, variable_count, violates, order_of, assignment_of, assigned_push, orders_are_known, HasFronts, IsPrefixAt, AreLevels, AreSiblings, IsRangedValue, Siblings, first_item, item_below, Token, Branch, Holds, Item, branches, node_at, node_of, satisfies}
use Rattle.std.proofs.lemmas.List.{length-take-le, get_or-append_right, get_or_append_left}
use Rattle.cert_check.proofs.OnNext.{none_first, branch_none}
use Rattle.cert_check.proofs.Within.{bounds, next_of, ranged_last}

-- the first item of the last of k values
pub item_last : (levels : List Siblings) (values : List ℕ) (k : ℕ) (d : Siblings) → 0 < k → k ≤ length levels → first_item (slice_index_or levels (k - 1) d) (slice_index_or values (k - 1) 0) ≡ item_below levels values k
item_last levels values zero d some few = absurd (omega arith)
item_last levels values (suc j) d some few =
    (λ i. first_item (slice_index_or levels (less i) d) (slice_index_or values (less i) 0))
    ∙ sym (ap (option_and_then (λ s. first_item s (slice_index_or values j 0))) (slice_get-get_or levels j d (omega arith)))
  where
    less : suc j - 1 ≡ j
    less = omega arith

module _ (l : Language) (network : List Candidate) (c : Candidate) where
  pub levels_begin : (values : List ℕ) (levels : List Siblings) → values ≡ [] → AreLevels l network c (length values) values levels
  levels_begin values levels none = record {
    deep = (let size = ap length none in omega (arith, size));
    each = λ j d low. absurd (let size = ap length none in omega (arith, size));
  }

  -- the siblings of one value more
  pub levels_more : (n : ℕ) (values : List ℕ) (s : Siblings) (before now : List Siblings) → n ≡ length values → AreLevels l network c n values before → now ≡ take n before ++ s ∷ [] →
      AreSiblings l network (next_of l c values) (assignment_of l c values) s → AreLevels l network c (n + 1) values now
  levels_more n values s before now count levels is here = record {
    deep = omega (arith, ap length is, length-append (take n before) (s ∷ []), size);
    each = λ j d low. at j d low (cases_lt j n);
  }
    where
      size : length (take n before) ≡ n
      size = length-take-le n before levels.deep

      at : (j : ℕ) (d : Siblings) → j < n + 1 → (j < n) ⊎ (n ≤ j) → AreSiblings l network (slice_index_or (order_of l c) j 0) (assignment_of l c (take j values)) (slice_index_or now j d)
      at j d low (inl below) =
          let same : get_or now j d ≡ get_or before j d = ap (λ ss. get_or ss j d) is ∙ get_or_append_left (take n before) (s ∷ []) d j (omega (arith, below, size)) ∙ get_or-take n before j d below in
          subst (λ t. AreSiblings l network (slice_index_or (order_of l c) j 0) (assignment_of l c (take j values)) t) (sym same) (levels.each j d below)
      at j d low (inr past) =
          let end : j ≡ n = omega arith in
          let last : get_or now n d ≡ s = ap (λ ss. get_or ss n d) is ∙ get_or-append_right (take n before) (s ∷ []) n n d size (omega arith) ∙ ap (λ k. get_or (s ∷ []) k d) (let e : n - n ≡ 0 = omega arith in e) in
          let all : take n values ≡ values = take_all n values (omega (arith, count)) in
          subst (λ k. AreSiblings l network (slice_index_or (order_of l c) k 0) (assignment_of l c (take k values)) (slice_index_or now k d)) (sym end)
          (subst (λ t. AreSiblings l network (slice_index_or (order_of l c) n 0) (assignment_of l c (take n values)) t) (sym last)
          (subst (λ vs. AreSiblings l network (slice_index_or (order_of l c) n 0) (assignment_of l c vs) s) (sym all)
          (subst (λ k. AreSiblings l network (slice_index_or (order_of l c) k 0) (assignment_of l c values) s) (sym count) here)))

  -- where a branch stands, those of the next variable are added
  pub level_added : (order values : List ℕ) (e : Assignment) (token : Token) (s : Siblings) (before now : List Siblings) → order ≡ order_of l c → IsPrefixAt l c values e → token ≡ Branch →
      AreLevels l network c (length values) values before → now ≡ take (length values) before ++ s ∷ [] → AreSiblings l network (slice_index_or order (length values) 0) e s →
      AreLevels l network c (length values + branches (token ∷ [])) values now
  level_added order values e token s before now same at branch levels is here =
      subst (λ t. AreLevels l network c (length values + branches (t ∷ [])) values now) (sym branch)
      (levels_more (length values) values s before now refl levels is
      (subst (λ f. AreSiblings l network (next_of l c values) f s) at.is (subst (λ (o : List ℕ). AreSiblings l network (slice_index_or o (length values) 0) e s) same here)))

  -- where none stands, they are as they were
  pub level_kept : (values : List ℕ) (token : Token) (levels : List Siblings) → (token ≡ Branch → ⊥) → AreLevels l network c (length values) values levels → AreLevels l network c (length values + branches (token ∷ [])) values levels
  level_kept values Branch levels other are = absurd (other refl)
  level_kept values Holds levels other are = subst (λ n. AreLevels l network c n values levels) (let e : length values ≡ length values + 0 = omega arith in e) are
  level_kept values (Item i) levels other are = subst (λ n. AreLevels l network c n values levels) (let e : length values ≡ length values + 0 = omega arith in e) are

  -- nothing is violated at a branch
  pub none_at_branch : (values : List ℕ) (e : Assignment) (token : Token) → IsPrefixAt l c values e → token ≡ node_at l network c values → token ≡ Branch → position (λ d. violates l d e) network ≡ None
  none_at_branch values e token at node branch = ap (λ f. position (λ d. violates l d f) network) at.is ∙ branch_none _ _ (sym branch ∙ node)

  -- what comes next begins with the same values
  pub levels_on : (n : ℕ) (values next : List ℕ) (levels : List Siblings) → AreLevels l network c n values levels → HasFronts values n next → AreLevels l network c (length next) next levels
  levels_on n values next levels are fronts = record {
    deep = few (length next) (λ j low. (fronts j low).0);
    each = λ j d low.
        subst (λ vs. AreSiblings l network (slice_index_or (order_of l c) j 0) (assignment_of l c vs) (slice_index_or levels j d)) (sym (fronts j low).1) (are.each j d (fronts j low).0);
  }
    where
      few : (k : ℕ) → ((j : ℕ) → j < k → j < n) → k ≤ length levels
      few zero each = omega arith
      few (suc k) each = let below = each k (omega arith) in let deep = are.deep in omega (arith, below, deep)

  module _ (lawful : IsLanguage l) (is : IsCandidate l c) (known : IsNetwork l network) where
    -- the first item that the prefix violates
    first_at : (k : ℕ) (values : List ℕ) (e : Assignment) (levels : List Siblings) → k ≡ length values → IsPrefixAt l c values e → AreLevels l network c k values levels →
        item_below levels values k ≡ position (λ d. violates l d e) network
    first_at zero values e levels count at are =
        let none : values ≡ [] = empty values (sym count) in
        sym (ap (λ f. position (λ d. violates l d f) network) (at.is ∙ ap (assignment_of l c) none) ∙ none_first l network c lawful known)
      where
        empty : (vs : List ℕ) → length vs ≡ 0 → vs ≡ []
        empty [] none = refl
        empty (v ∷ vs) none = absurd (omega arith)
    first_at (suc k) values e levels count at are =
        ap (option_and_then (λ s. first_item s x)) (slice_get-get_or levels k blank (omega (arith, are.deep)))
        ∙ are.each k blank (omega arith) x value
        ∙ ap (λ f. position (λ d. violates l d f) network) same
      where
        x : ℕ
        x = slice_index_or values k 0

        front : List ℕ
        front = take k values

        blank : Siblings
        blank = record { free = 0; items = [] }

        long : length front ≡ k
        long = length-take-le k values (omega arith)

        whole : front ++ x ∷ [] ≡ values
        whole = sym (take_more values k 0 (omega arith)) ∙ take_all (k + 1) values (omega arith)

        room : length front < variable_count l
        room = let short = at.short in omega (arith, long, short, count)

        next : slice_index_or (order_of l c) k 0 ≡ next_of l c front
        next = ap (λ j. slice_index_or (order_of l c) j 0) (sym long)

        same : slice_set (assignment_of l c front) (slice_index_or (order_of l c) k 0) (Some x) ≡ e
        same = ap (λ v. slice_set (assignment_of l c front) v (Some x)) next ∙ assigned_push (variable_count l) (order_of l c) (orders_are_known l c lawful is) front x room
            ∙ ap (assignment_of l c) whole ∙ sym at.is

        value : IsRangedValue l (slice_index_or (order_of l c) k 0) x
        value =
            let within = bounds _ x (ranged_last l lawful c is front x room (subst (λ vs. are_ranged l (assignment_of l c vs) ≡ true) (sym whole) at.ranged)) in
            subst (λ v. IsRangedValue l v x) (sym next) (record { from = within.0; to = within.1 })

    pub first_is : (values : List ℕ) (e : Assignment) (levels : List Siblings) (item : Option ℕ) → IsPrefixAt l c values e → AreLevels l network c (length values) values levels →
        item ≡ item_below levels values (length values) → item ≡ position (λ d. violates l d e) network
    first_is values e levels item at are found = found ∙ first_at (length values) values e levels refl at are

    -- the node there
    pub node_there : (values vs : List ℕ) (e : Assignment) (levels ss : List Siblings) (item : Option ℕ) (token : Token) → vs ≡ values → ss ≡ levels → IsPrefixAt l c values e → AreLevels l network c (length values) values levels →
        item ≡ item_below ss vs (length vs) → token ≡ node_of item (satisfies l c e) → token ≡ node_at l network c values
    node_there values vs e levels ss item token same those at are found is =
        is ∙ ap (λ o. node_of o (satisfies l c e)) (first_is values e levels item at are (found ∙ (λ i. item_below (those i) (same i) (length (same i)))))
        ∙ ap (λ (f : Assignment). node_of (position (λ d. violates l d f) network) (satisfies l c f)) at.is
