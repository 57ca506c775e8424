-- The text of a network tells it.
use Rattle.network.proofs.Prelude.{◌≡◌, ℕ, ◌^◌, ◌<◌, ◌≤◌, true, ◌&&◌, not, List, [], ◌∷◌, ◌++◌, length, map, refl, sym, ◌∙◌, ap, subst, arith, inl, inr, ◌⊎◌, ◌==◌, AllPairs, slice_index_or, list_all, flat_map, and_parts, and_from, cases_order, both_ways, or_left, or_right, eq-eqb, length-map, All-map, All-contains, list_all-append, Relation, one_number, Candidate, Language, Given, IsLanguage, IsCandidate, IsScope, AreApart, given_of, given_on, relations_on, scope_at, scope_of, relation_of, is_name, candidate_text, containing, scope_names, joined, is_part, given_on_sized, TextTellsNetwork}
use Rattle.assign.specs.Sets.{has, is_within}
use Rattle.network.proofs.Cutting.{is_without, same_front, same_lines, same_words, same_pieces}
use Rattle.network.proofs.Naming.{names-without, names-pieces, names_at, names_on, same_numbers, unlike_of, unlike_on, unlike-filter, names-filter, same_kept}
use Rattle.network.proofs.Parts.{same_intersection}

-- ---- what the parts of a text don't have

joined_without : (low : ℕ) (pieces : List (List ℕ)) → not (38 == low) ≡ true → list_all (is_without low) pieces ≡ true → is_without low (joined 38 pieces) ≡ true
joined_without low [] other h = refl
joined_without low (p ∷ []) other h = (and_parts (is_without low p) true h).0
joined_without low (p ∷ q ∷ pieces) other h =
    let parts = and_parts (is_without low p) (list_all (is_without low) (q ∷ pieces)) h in
    list_all-append (λ x. not (x == low)) p (38 ∷ joined 38 (q ∷ pieces))
    ∙ and_from (is_without low p) (not (38 == low) && is_without low (joined 38 (q ∷ pieces))) parts.0 (and_from (not (38 == low)) (is_without low (joined 38 (q ∷ pieces))) other (joined_without low (q ∷ pieces) other parts.1))

words_without : (low : ℕ) (words : List (List ℕ)) → not (32 == low) ≡ true → list_all (is_without low) words ≡ true → is_without low (flat_map (λ w. 32 ∷ w) words) ≡ true
words_without low [] other h = refl
words_without low (w ∷ words) other h =
    let parts = and_parts (is_without low w) (list_all (is_without low) words) h in
    and_from (not (32 == low)) (is_without low (w ++ flat_map (λ w. 32 ∷ w) words)) other
    (list_all-append (λ x. not (x == low)) w (flat_map (λ w. 32 ∷ w) words) ∙ and_from (is_without low w) (is_without low (flat_map (λ w. 32 ∷ w) words)) parts.0 (words_without low words other parts.1))

-- ---- equal scopes have one number

within_itself : (xs ys : List ℕ) → ((x : ℕ) → has ys x ≡ true → has xs x ≡ true) → is_within ys xs ≡ true
within_itself xs [] h = refl
within_itself xs (y ∷ ys) h = and_from (has xs y) (list_all (has xs) ys) (h y (or_left (y == y) (has ys y) (eq-eqb y y refl))) (within_itself xs ys (λ x there. h x (or_right (y == x) (has ys x) there)))

same_scope : (scopes : List (List ℕ)) (s u : ℕ) → AllPairs AreApart scopes → s < length scopes → u < length scopes → slice_index_or scopes s [] ≡ slice_index_or scopes u [] → s ≡ u
same_scope scopes s u apart low high same = go (cases_order s u)
  where
    within : is_within (slice_index_or scopes s []) (slice_index_or scopes u []) ≡ true
    within = within_itself (slice_index_or scopes u []) (slice_index_or scopes s []) (λ x there. ap (λ vs. has vs x) (sym same) ∙ there)

    go : (s ≡ u) ⊎ ((s < u) ⊎ (u < s)) → s ≡ u
    go (inl e) = e
    go (inr (inl below)) = absurd (both_ways _ (apart s u [] below high).left within)
    go (inr (inr above)) = absurd (both_ways _ (apart u s [] above low).right within)

-- ---- the names of a relation and those of a scope

same_halves : (xs ys : List ℕ) (words others : List (List ℕ)) → is_without 32 xs ≡ true → is_without 32 ys ≡ true → 1 ≤ length words → 1 ≤ length others →
    xs ++ flat_map (λ w. 32 ∷ w) words ≡ ys ++ flat_map (λ w. 32 ∷ w) others → (xs ≡ ys) × (flat_map (λ w. 32 ∷ w) words ≡ flat_map (λ w. 32 ∷ w) others)
same_halves xs ys [] others h k some more e = absurd (omega arith)
same_halves xs ys (w ∷ words) [] h k some more e = absurd (omega arith)
same_halves xs ys (w ∷ words) (o ∷ others) h k some more e =
    let both = same_front 32 xs ys (w ++ flat_map (λ w. 32 ∷ w) words) (o ++ flat_map (λ w. 32 ∷ w) others) h k e in
    (both.0, ap (λ t. 32 ∷ t) both.1)

-- ---- one candidate

module _ (l : Language) (lawful : IsLanguage l) where
  scope_is : (c : Candidate) → IsCandidate l c → IsScope (length l.names) (scope_of l c)
  scope_is c is = lawful.scopes c.scope [] is.scope

  relation_names : (s : ℕ) (r : Relation) → list_all is_name (containing l s r) ≡ true
  relation_names s r =
      names-filter (λ (g : Given). is_part r g.relation) (given_on l s)
      (ap (list_all is_name) (names_on l (scope_at l s) (given_of l (length (scope_at l s)))) ∙ names-filter (λ (g : Given). g.arity == length (scope_at l s)) l.given lawful.relation_names.formed)

  variable_names : (c : Candidate) → IsCandidate l c → list_all is_name (scope_names l (scope_of l c)) ≡ true
  variable_names c is = names_at l.names (scope_of l c) lawful.names.formed (scope_is c is).known

  -- a text has no newline
  pub one_line : (c : Candidate) → IsCandidate l c → is_without 10 (candidate_text l c) ≡ true
  one_line c is =
      let front = joined 38 (containing l c.scope (relation_of l c)) in
      let back = flat_map (λ name. 32 ∷ name) (scope_names l (scope_of l c)) in
      list_all-append (λ x. not (x == 10)) front back
      ∙ and_from (is_without 10 front) (is_without 10 back)
      (joined_without 10 (containing l c.scope (relation_of l c)) refl (names-without 10 (containing l c.scope (relation_of l c)) (omega arith) (relation_names c.scope (relation_of l c))))
      (words_without 10 (scope_names l (scope_of l c)) refl (names-without 10 (scope_names l (scope_of l c)) (omega arith) (variable_names c is)))

  -- the scope is told by the names after the spaces
  same_names : (c d : Candidate) → IsCandidate l c → IsCandidate l d → candidate_text l c ≡ candidate_text l d →
      (joined 38 (containing l c.scope (relation_of l c)) ≡ joined 38 (containing l d.scope (relation_of l d))) × (scope_names l (scope_of l c) ≡ scope_names l (scope_of l d))
  same_names c d is other e =
      let both = same_halves (joined 38 (containing l c.scope (relation_of l c))) (joined 38 (containing l d.scope (relation_of l d)))
      (scope_names l (scope_of l c)) (scope_names l (scope_of l d))
      (joined_without 32 (containing l c.scope (relation_of l c)) refl (names-without 32 (containing l c.scope (relation_of l c)) (omega arith) (relation_names c.scope (relation_of l c))))
      (joined_without 32 (containing l d.scope (relation_of l d)) refl (names-without 32 (containing l d.scope (relation_of l d)) (omega arith) (relation_names d.scope (relation_of l d))))
      (let some = (scope_is c is).not_empty in omega (arith, length-map (scope_of l c) (λ v. slice_index_or l.names v [])))
      (let some = (scope_is d other).not_empty in omega (arith, length-map (scope_of l d) (λ v. slice_index_or l.names v []))) e in (
        both.0,
        same_words 32 (scope_names l (scope_of l c)) (scope_names l (scope_of l d)) (names-without 32 (scope_names l (scope_of l c)) (omega arith) (variable_names c is))
            (names-without 32 (scope_names l (scope_of l d)) (omega arith) (variable_names d other)) both.1,
      )

  scope_told : (c d : Candidate) → IsCandidate l c → IsCandidate l d → candidate_text l c ≡ candidate_text l d → c.scope ≡ d.scope
  scope_told c d is other e = same_scope l.scopes c.scope d.scope lawful.apart is.scope other.scope
      (same_numbers l.names (scope_of l c) (scope_of l d) lawful.names.apart (scope_is c is).known (scope_is d other).known (same_names c d is other e).1)

  -- the relation is told by the names before them
  relation_told : (s r q : ℕ) → IsCandidate l (record { scope = s; rel = r }) → IsCandidate l (record { scope = s; rel = q }) →
      candidate_text l (record { scope = s; rel = r }) ≡ candidate_text l (record { scope = s; rel = q }) → r ≡ q
  relation_told s r q is other e =
      let c : Candidate = record { scope = s; rel = r } in
      let d : Candidate = record { scope = s; rel = q } in
      let given = given_on l s in
      let closed = lawful.closed s is.scope in
      let names = same_pieces 38 (containing l s (relation_of l c)) (containing l s (relation_of l d)) (names-pieces (containing l s (relation_of l c)) (relation_names s (relation_of l c)))
      (names-pieces (containing l s (relation_of l d)) (relation_names s (relation_of l d))) (same_names c d is other e).0 in
      let kept = same_kept (λ (g : Given). is_part (relation_of l c) g.relation) (λ (g : Given). is_part (relation_of l d) g.relation) given
      (unlike_on l (scope_at l s) (given_of l (length (scope_at l s))) (unlike-filter (λ (g : Given). g.arity == length (scope_at l s)) l.given (unlike_of l.given lawful.relation_names.apart))) names in
      let agree = All-map (λ p. is_part (relation_of l c) p ≡ is_part (relation_of l d) p) (λ (g : Given). g.relation) given kept in
      let same = same_intersection (l.value_count ^ length (scope_at l s)) (map (λ (g : Given). g.relation) given) (relation_of l c) (relation_of l d) (given_on_sized l lawful s)
      (closed.each r [] is.rel) (closed.each q [] other.rel)
      (λ p there. All-contains (λ p. is_part (relation_of l c) p ≡ is_part (relation_of l d) p) (map (λ (g : Given). g.relation) given) p agree there) in
      one_number (relations_on l s) r q closed.falling is.rel other.rel same

  pub candidate_told : (c d : Candidate) → IsCandidate l c → IsCandidate l d → candidate_text l c ≡ candidate_text l d → c ≡ d
  candidate_told c d is other e =
      let scope = scope_told c d is other e in
      let moved : d ≡ record { scope = c.scope; rel = d.rel } = ap (λ (t : ℕ). let x : Candidate = record { scope = t; rel = d.rel } in x) (sym scope) in
      let rel = relation_told c.scope c.rel d.rel is (subst (IsCandidate l) moved other) (e ∙ ap (candidate_text l) moved) in
      ap (λ (r : ℕ). let x : Candidate = record { scope = c.scope; rel = r } in x) rel ∙ sym moved

pub text_tells_network : TextTellsNetwork
text_tells_network l a b lawful known other e = same_lines 10 (candidate_text l) (IsCandidate l) a b (one_line l lawful) (candidate_told l lawful) known other e
