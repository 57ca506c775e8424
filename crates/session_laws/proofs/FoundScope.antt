-- What begins once a halving has found a set: that set is a scope with choices, or no network agrees.
use Rattle.session_laws.proofs.Prelude.{◌≡◌, ℕ, ◌<◌, ◌≤◌, Bool, true, false, ◌&&◌, not, List, [], ◌∷◌, ◌++◌, length, map, Some, None, refl, sym, ◌∙◌, ap, subst, inl, inr, ◌⊎◌, ◌==◌, All, Any, slice_index_or, position, beq, list_any, filter, append-nil, All-map, All-filter, All-head, filter_passes, position-Some, list_all-append, list_any_at, list_all-from_AllPass, cases_Bool, and_parts, and_from, and_right, both_ways, not_from_false, not-true, eq-eqb, eqb-true, false_from_ne_true, Candidate, has, is_within, is_same, Rises, Assignment, variables_of, Language, IsLanguage, IsCandidate, candidates, scope_of, violates, accepts, Answer, IsNoOn, NoneAgrees, has_scope, agrees, is_struck, kept, Got, halve, Choice, violated_choices, learn, same_scope, IsKnown, sub_within, any-filter, any-map, any_candidate, list_same, all_candidates, same_list}
use Rattle.session_laws.proofs.Restrict.{position_some, violates_restrict, rising_scope, exact_on}
use Rattle.session_laws.proofs.Choices.{IsHalfway, IsGone, is_number, still_agrees, beq_false}
use Rattle.session_laws.proofs.Halving.{IsHalving, IsReply, IsWith, culprit, got_denied, got_rises}

-- ---- the set that is got is a scope with choices

module _ (l : Language) (lawful : IsLanguage l) (t : List Answer) (e : Assignment) (set : List ℕ) (replies : List Bool) (network : List Candidate)
    (half : IsHalving l t e set replies network) (s : List ℕ) (left : List Bool) (got : halve set replies ≡ Got s left) where
  -- where it is no scope, no network agrees
  pub no_scope : position (is_same s) l.scopes ≡ None → NoneAgrees l t
  no_scope none = λ other is_other agreeing.
      let is = culprit l lawful t e set replies network half s left got other is_other agreeing in
      position_some (is_same s) l.scopes (list_any_at (is_same s) l.scopes is.0.scope [] is.1.candidate.scope (ap (is_same s) is.1.scope ∙ list_same s)) none

  module _ (n : ℕ) (is_n : position (is_same s) l.scopes ≡ Some n) where
    low : n < length l.scopes
    low = (position-Some (is_same s) l.scopes n [] is_n).0

    scope_is : slice_index_or l.scopes n [] ≡ s
    scope_is = sym (same_list s (slice_index_or l.scopes n []) (position-Some (is_same s) l.scopes n [] is_n).1)

    is_here : (c : Candidate) → IsCandidate l c → scope_of l c ≡ s → c.scope ≡ n
    is_here c is same =
        let here : Candidate = record { scope = n; rel = 0 } in
        same_scope l lawful here c (record { scope = low; rel = lawful.used n low }) is
        (sub_within (scope_of l c) (slice_index_or l.scopes n []) 0 (rising_scope l lawful c is) (λ v below h. ap (λ xs. has xs v) (sym (same ∙ sym scope_is)) ∙ h))

    -- a kept candidate there that e violates is a choice
    chosen_there : (p : Choice → Bool) (c : Candidate) → IsCandidate l c → c.scope ≡ n → is_struck l t c ≡ false → has_scope network c.scope ≡ false → violates l c e ≡ true → p (Some c.rel) ≡ true →
        list_any p (violated_choices l (kept l t network) e n) ≡ true
    chosen_there p c is here fresh free bad at =
        any-map p (λ (d : Candidate). Some d.rel) _ ∙ any-filter (λ (d : Candidate). p (Some d.rel)) (λ d. (d.scope == n) && violates l d e) (kept l t network)
        ∙ any-filter (λ (d : Candidate). ((d.scope == n) && violates l d e) && p (Some d.rel)) (λ d. not (is_struck l t d) && not (has_scope network d.scope)) (candidates l)
        ∙ any_candidate l (λ (d : Candidate). (not (is_struck l t d) && not (has_scope network d.scope)) && (((d.scope == n) && violates l d e) && p (Some d.rel))) c is
        (and_from _ _ (and_from _ _ (not_from_false _ fresh) (not_from_false _ free)) (and_from _ _ (and_from _ _ (eq-eqb c.scope n here) bad) at))

    -- where none is, no network agrees
    pub no_choice : violated_choices l (kept l t network) e n ≡ [] → NoneAgrees l t
    no_choice none = λ other is_other agreeing.
        let is = culprit l lawful t e set replies network half s left got other is_other agreeing in
        both_ways false refl (ap (list_any (λ x. true)) (sym none)
        ∙ chosen_there (λ x. true) is.0 is.1.candidate (is_here is.0 is.1.candidate is.1.scope) is.1.fresh is.1.free is.1.bad refl)

    abbrev here : List Candidate
    here = filter (λ c. (c.scope == n) && violates l c e) (kept l t network)

    bad_here : All (λ (c : Candidate). ((c.scope == n) && violates l c e) ≡ true) here
    bad_here = filter_passes (λ c. (c.scope == n) && violates l c e) (kept l t network)

    passes : All (λ c. (not (is_struck l t c) && not (has_scope network c.scope)) ≡ true) here
    passes = All-filter (λ c. (c.scope == n) && violates l c e) (λ c. (not (is_struck l t c) && not (has_scope network c.scope)) ≡ true) (kept l t network)
        (filter_passes (λ c. not (is_struck l t c) && not (has_scope network c.scope)) (candidates l))

    candidate_here : All (IsCandidate l) here
    candidate_here = All-filter (λ c. (c.scope == n) && violates l c e) (IsCandidate l) (kept l t network)
        (All-filter (λ c. not (is_struck l t c) && not (has_scope network c.scope)) (IsCandidate l) (candidates l) (all_candidates l))

    known_here : (c : Candidate) → (c.scope == n) ≡ true → IsCandidate l c → (r : ℕ) → Some c.rel ≡ Some r → IsCandidate l (record { scope = n; rel = r })
    known_here c at is r e =
        let same : c.rel ≡ r = cc in
        subst (λ (x : Candidate). IsCandidate l x) (λ i. record { scope = eqb-true c.scope n at i; rel = same i }) is

    -- the network with such a candidate gives each entry
    agrees_learned : (c : Candidate) → scope_of l c ≡ s → Rises 0 (scope_of l c) → is_struck l t c ≡ false → violates l c e ≡ true → agrees l (network ++ c ∷ []) t ≡ true
    agrees_learned c scope rises fresh bad = list_all-from_AllPass (λ (a : Answer). beq (accepts l (network ++ c ∷ []) a.question) a.yes) t (λ k a low_k.
        ap (λ b. beq b (slice_index_or t k a).yes) (list_all-append (λ (d : Candidate). not (violates l d (slice_index_or t k a).question)) network (c ∷ []))
        ∙ one (slice_index_or t k a) (not_yes k a low_k) (half.entries k a low_k))
      where
        not_yes : (k : ℕ) (d : Answer) → k < length t → ((slice_index_or t k d).yes && violates l c (slice_index_or t k d).question) ≡ false
        not_yes k d low_k = false_from_ne_true _ (λ struck. both_ways _ fresh (list_any_at (λ (a : Answer). a.yes && violates l c a.question) t k d low_k struck))

        one : (a : Answer) → (a.yes && violates l c a.question) ≡ false → IsWith l e set replies network a → beq (accepts l network a.question && (not (violates l c a.question) && true)) a.yes ≡ true
        one a safe (inl given) = still_agrees (accepts l network a.question) a.yes (violates l c a.question) given safe
        one a safe (inr (denied, w, asked, lies)) =
            ap (beq (accepts l network a.question && (not (violates l c a.question) && true))) denied
            ∙ beq_false _ (and_right (accepts l network a.question) _ (ap (λ b. not b && true)
            (ap (violates l c) asked ∙ violates_restrict l c e w ∙ and_from _ _ (sub_within (scope_of l c) w 0 rises
            (λ v below h. lies [] s left (ap (halve set) (append-nil replies) ∙ got) v below (ap (λ xs. has xs v) (sym scope) ∙ h))) bad)))

    -- a no entry about just this scope
    no_entry : (c : Candidate) → c.scope ≡ n → Any (λ a. IsNoOn l c a × (violates l c e ≡ false → violates l c a.question ≡ false)) t
    no_entry c here = go (got_denied l lawful t e set replies network half s left got)
      where
        go : IsKnown (λ w. Any (IsReply e w false) t) [] s → Any (λ a. IsNoOn l c a × (violates l c e ≡ false → violates l c a.question ≡ false)) t
        go (w, (k, a, low_k, at, is), alike) = (
          k,
          a,
          low_k,
          at,
          (
            record {
              no = is.answer;
              exact = ap variables_of is.question
                  ∙ exact_on l lawful e half.size half.complete w (slice_index_or l.scopes n []) (subst (Rises 0) (sym scope_is) (got_rises l lawful t e set replies network half s left got)) (lawful.scopes n [] low).known
                  (λ v below. alike v below ∙ ap (λ xs. has xs v) (sym scope_is))
                  ∙ ap (λ i. slice_index_or l.scopes i []) (sym here);
            },
            (λ fine. ap (violates l c) is.question ∙ violates_restrict l c e w ∙ and_right (is_within (scope_of l c) w) _ fine),
          ),
        )

    pub begin_found : 1 ≤ length (violated_choices l (kept l t network) e n) → has_scope network n ≡ false → IsHalfway l t n (violated_choices l (kept l t network) e n) network
    begin_found some free = record {
      low = low;
      free = free;
      legal = half.legal;
      apart = half.apart;
      begun = half.begun;
      told = half.told;
      some = some;
      agreeing = All-map (λ x. agrees l (learn network n x) t ≡ true) (λ (c : Candidate). Some c.rel) here (λ k d h. at_scope (slice_index_or here k d)
          (eqb-true _ n (and_parts _ _ (bad_here k d h)).0) (candidate_here k d h) (not-true _ (and_parts _ _ (passes k d h)).0) (and_parts _ _ (bad_here k d h)).1);
      known = All-map (λ x. (r : ℕ) → x ≡ Some r → IsCandidate l (record { scope = n; rel = r })) (λ (c : Candidate). Some c.rel) here
          (λ k d h. known_here (slice_index_or here k d) (and_parts _ _ (bad_here k d h)).0 (candidate_here k d h));
      gone = λ r is lost. go r is lost (cases_Bool (is_struck l t (record { scope = n; rel = r })));
      none_gone = λ lost. first_of (no_entry (record { scope = n; rel = 0 }) refl);
    }
      where
        at_scope : (c : Candidate) → c.scope ≡ n → IsCandidate l c → is_struck l t c ≡ false → violates l c e ≡ true → agrees l (learn network n (Some c.rel)) t ≡ true
        at_scope c at is fresh bad =
            subst (λ (i : ℕ). agrees l (network ++ record { scope = i; rel = c.rel } ∷ []) t ≡ true) at
            (agrees_learned c (ap (λ i. slice_index_or l.scopes i []) at ∙ scope_is) (rising_scope l lawful c is) fresh bad)

        first_of : Any (λ a. IsNoOn l (record { scope = n; rel = 0 }) a × (violates l (record { scope = n; rel = 0 }) e ≡ false → violates l (record { scope = n; rel = 0 }) a.question ≡ false)) t →
            Any (IsNoOn l (record { scope = n; rel = 0 })) t
        first_of (k, a, low_k, at, both) = (k, a, low_k, at, both.0)

        go : (r : ℕ) → IsCandidate l (record { scope = n; rel = r }) → list_any (is_number r) (violated_choices l (kept l t network) e n) ≡ false →
            (is_struck l t (record { scope = n; rel = r }) ≡ true) ⊎ (is_struck l t (record { scope = n; rel = r }) ≡ false) → IsGone l t (record { scope = n; rel = r })
        go r is lost (inl struck) = inl struck
        go r is lost (inr fresh) = inr (with_fine (no_entry (record { scope = n; rel = r }) refl))
          where
            fine : violates l (record { scope = n; rel = r }) e ≡ false
            fine = false_from_ne_true _ (λ bad. both_ways _ lost (chosen_there (is_number r) (record { scope = n; rel = r }) is refl fresh free bad (eq-eqb r r refl)))

            with_fine : Any (λ a. IsNoOn l (record { scope = n; rel = r }) a × (violates l (record { scope = n; rel = r }) e ≡ false → violates l (record { scope = n; rel = r }) a.question ≡ false)) t →
                Any (λ a. IsNoOn l (record { scope = n; rel = r }) a × (violates l (record { scope = n; rel = r }) a.question ≡ false)) t
            with_fine (k, a, low_k, at, both) = (k, a, low_k, at, (both.0, both.1 fine))

    -- some choice says that nothing is learned on the scope
    pub free_there : (x : Choice) (choices : List Choice) → violated_choices l (kept l t network) e n ≡ x ∷ choices → has_scope network n ≡ false
    free_there x choices are = go here refl passes bad_here
      where
        go : (cs : List Candidate) → here ≡ cs → All (λ c. (not (is_struck l t c) && not (has_scope network c.scope)) ≡ true) cs → All (λ (c : Candidate). ((c.scope == n) && violates l c e) ≡ true) cs → has_scope network n ≡ false
        go [] same pass bad = absurd (both_ways false refl (ap (list_any (λ x. true)) (sym (ap (map (λ (c : Candidate). Some c.rel)) same) ∙ are)))
        go (c ∷ cs) same pass bad =
            subst (λ (i : ℕ). has_scope network i ≡ false) (eqb-true c.scope n (and_parts _ _ (All-head (λ (c : Candidate). ((c.scope == n) && violates l c e) ≡ true) c cs bad)).0)
            (not-true _ (and_parts _ _ (All-head (λ c. (not (is_struck l t c) && not (has_scope network c.scope)) ≡ true) c cs pass)).1)
