-- What is left to walk of an example: each candidate that it violates and that may still be learned lies within a set that waits.
use Rattle.session_laws.proofs.Prelude.{◌≡◌, ℕ, zero, suc, ◌*◌, ◌<◌, Bool, true, false, ◌||◌, ◌&&◌, not, List, [], ◌∷◌, ◌++◌, length, Option, Some, None, refl, sym, ◌∙◌, ap, subst, arith, inl, inr, ◌⊎◌, ◌==◌, Any, AllPairs, Contains, slice_index_or, position, option_map, option_and_then, list_any, get_or_default, All-nil, list_any-append, list_any_at, Any-from_list_any, cases_eq, cases_order, and_parts, and_from, and_left, or_cases, or_parts, or_left, or_right, or_from, both_ways, not_from_false, not-true, eqb-true, eq-eqb, false_from_ne_true, true_from_ne_false, Candidate, Plan, Scopes, Quacq, Multi, numbers, has, is_within, is_same, without, Rises, Assignment, restrict, Answer, has-set_where, Language, IsLanguage, IsCandidate, candidates, variable_count, scope_of, violates, IsNetwork, IsNoOn, has_scope, agrees, is_struck, kept, accepted_at, denied, same_scope, find_all, any-filter, any-map, any_candidate, any_number, Halved, Wants, Got, halve, sub_within, within_sub, Choice, splitting_tuple, after_reply, remaining, scene_of, on_scope, free_choices, violated_choices, Walk, WalkEnd, Ended, Capped, Turn, Asks, violates_some, learned_within, parts_without, take_set, next_turn, State, Idle, Halving, Choosing, Walking, Over, At, MOST_SETS, next_scope, learn, at_turn, go_on, settle_choices, chosen, begin_choosing, found, with_quiet_replies, halved, settle_halving, is_just, replied, replied_tuple, on_scope_asked, begun, is_lawful, step, state_after, end_in, IsWalked, EndedIsWalked, all_candidates}
use Rattle.session_laws.proofs.Restrict.{restrict_all, rises_range, violates_restrict, rising_scope, below_count, has_all}
use Rattle.session_laws.proofs.Gone.{struck_now}
use Rattle.session_laws.proofs.Folds.{same_assignment, passed, asked_is, reached}
use Rattle.session_laws.proofs.Choices.{IsSound, IsHalfway, begin_halfway, reply_halfway, settled, struck_more, nothing_yet}
use Rattle.session_laws.proofs.Halving.{IsHalving, begin_halving, reply_halving, settled_halving, fresh_in}
use Rattle.session_laws.proofs.FoundScope.{begin_found, free_there}
use Rattle.session_laws.proofs.States.{IsWalking, Holds, IsPut, put_is, whole_accepted, asked_set, first_turn, find_nothing, step_holds}
use Rattle.language.proofs.Lists.{any_weaker}

abbrev IsPending : Language → List Answer → List Candidate → Assignment → List (List ℕ) → Type 0
IsPending l t network e sets =
    (c : Candidate) → IsCandidate l c → violates l c e ≡ true → is_struck l t c ≡ false → has_scope network c.scope ≡ false → list_any (is_within (scope_of l c)) sets ≡ true

abbrev IsOnPending : Language → List Answer → List Candidate → Option Walk → Type 0
IsOnPending l t network None = Unit {0}
IsOnPending l t network (Some walk) = IsPending l t network walk.example walk.waiting

abbrev EndPends : Language → List Answer → List Candidate → Option WalkEnd → Type 0
EndPends l t network None = Unit {0}
EndPends l t network (Some (Ended e)) = IsPending l t network e []
EndPends l t network (Some (Capped e)) = Unit {0}

abbrev Pends : Language → List Answer → State → Type 0
Pends l t (Idle network end) = EndPends l t network end
Pends l t (Walking set walk network) = IsPending l t network walk.example (set ∷ walk.waiting)
Pends l t (Halving e set replies network walk) = IsOnPending l t network walk
Pends l t (Choosing s choices network walk) = IsOnPending l t network walk
Pends l t (Over network) = Unit {0}

not_struck_before : (l : Language) (t : List Answer) (a : Answer) (c : Candidate) → is_struck l (t ++ a ∷ []) c ≡ false → is_struck l t c ≡ false
not_struck_before l t a c h = false_from_ne_true _ (λ struck. both_ways _ h (struck_more l t a c struck))

pending_later : (l : Language) (t : List Answer) (a : Answer) (network : List Candidate) (e : Assignment) (sets : List (List ℕ)) → IsPending l t network e sets → IsPending l (t ++ a ∷ []) network e sets
pending_later l t a network e sets pending = λ c is bad fresh free. pending c is bad (not_struck_before l t a c fresh) free

on_pending_later : (l : Language) (t : List Answer) (a : Answer) (network : List Candidate) (walk : Option Walk) → IsOnPending l t network walk → IsOnPending l (t ++ a ∷ []) network walk
on_pending_later l t a network None on = tt
on_pending_later l t a network (Some walk) on = pending_later l t a network walk.example walk.waiting on

free_before : (network : List Candidate) (s : ℕ) (x : Choice) (n : ℕ) → has_scope (learn network s x) n ≡ false → has_scope network n ≡ false
free_before network s None n h = h
free_before network s (Some r) n h = (or_parts (has_scope network n) _ (sym (list_any-append (λ c. c.scope == n) network (record { scope = s; rel = r } ∷ [])) ∙ h)).0

on_pending_learned : (l : Language) (t : List Answer) (network : List Candidate) (s : ℕ) (x : Choice) (walk : Option Walk) → IsOnPending l t network walk → IsOnPending l t (learn network s x) walk
on_pending_learned l t network s x None on = tt
on_pending_learned l t network s x (Some walk) on = λ c is bad fresh free. on c is bad fresh (free_before network s x c.scope free)

some_outside : (xs ys : List ℕ) → is_within xs ys ≡ false → list_any (λ x. not (has ys x)) xs ≡ true
some_outside [] ys h = cc
some_outside (x ∷ xs) ys h = go (has ys x) h (some_outside xs ys)
  where
    go : (b : Bool) → (b && is_within xs ys) ≡ false → (is_within xs ys ≡ false → list_any (λ x. not (has ys x)) xs ≡ true) → (not b || list_any (λ x. not (has ys x)) xs) ≡ true
    go true h rest = rest h
    go false h rest = refl

module _ (l : Language) (lawful : IsLanguage l) where
  -- a set about a scope is split so that one part is about it still
  split_pending : (c d : Candidate) → IsCandidate l c → IsCandidate l d → (d.scope ≡ c.scope → ⊥) → (set : List ℕ) → is_within (scope_of l d) set ≡ true → list_any (is_within (scope_of l d)) (parts_without set (scope_of l c)) ≡ true
  split_pending c d is_c is_d other set inside =
      any-map (is_within (scope_of l d)) (λ v. without set v) (scope_of l c)
      ∙ any_weaker (λ x. not (has (scope_of l d) x)) (λ x. is_within (scope_of l d) (without set x)) (scope_of l c) part
      (some_outside (scope_of l c) (scope_of l d) (false_from_ne_true _ (λ within. other (sym (same_scope l lawful d c is_d is_c within)))))
    where
      part : (x : ℕ) → not (has (scope_of l d) x) ≡ true → is_within (scope_of l d) (without set x) ≡ true
      part x outside = sub_within (scope_of l d) (without set x) 0 (rising_scope l lawful d is_d) (λ v low h.
          has-set_where (λ w. has set w && not (has (x ∷ []) w)) v low
          ∙ and_from _ _ (within_sub (scope_of l d) set inside v low h)
          (not_from_false _ (or_from (x == v) false (false_from_ne_true _ (λ same. both_ways _ (not-true _ outside) (ap (has (scope_of l d)) (eqb-true x v same) ∙ h))) refl)))

  turn_pends : (t : List Answer) (network : List Candidate) (e : Assignment) → IsNetwork l network → (left : ℕ) (waiting : List (List ℕ)) → IsPending l t network e waiting →
      Pends l t (at_turn network (next_turn l network (kept l t network) e left waiting))
  unfolding next_turn
  turn_pends t network e legal zero [] pending = pending
  turn_pends t network e legal (suc left) [] pending = pending
  turn_pends t network e legal zero (set ∷ waiting) pending = tt
  turn_pends t network e legal (suc left) (set ∷ waiting) pending =
      go (learned_within l network e set) refl (λ parts now. turn_pends t network e legal left (parts ++ waiting) now)
    where
      pick : (b : Bool) → violates_some l (kept l t network) (restrict e set) ≡ b → (IsPending l t network e waiting → Pends l t (at_turn network (next_turn l network (kept l t network) e left ([] ++ waiting)))) → Pends l t (at_turn network (elim b [
        | true ↦ Asks set (record { example = e; waiting = waiting; left = left })
        | false ↦ next_turn l network (kept l t network) e left ([] ++ waiting)
      ]))
      pick true bites next = pending
      pick false quiet next = next (λ c is bad fresh free. at c is bad fresh free (or_cases (is_within (scope_of l c) set) _ (pending c is bad fresh free)))
        where
          at : (c : Candidate) → IsCandidate l c → violates l c e ≡ true → is_struck l t c ≡ false → has_scope network c.scope ≡ false →
              (is_within (scope_of l c) set ≡ true) ⊎ (list_any (is_within (scope_of l c)) waiting ≡ true) → list_any (is_within (scope_of l c)) waiting ≡ true
          at c is bad fresh free (inr later) = later
          at c is bad fresh free (inl inside) = absurd (both_ways _ quiet
              (any-filter (λ c. violates l c (restrict e set)) (λ c. not (is_struck l t c) && not (has_scope network c.scope)) (candidates l)
              ∙ any_candidate l (λ c. (not (is_struck l t c) && not (has_scope network c.scope)) && violates l c (restrict e set)) c is
              (and_from _ _ (and_from _ _ (not_from_false _ fresh) (not_from_false _ free)) (violates_restrict l c e set ∙ and_from _ _ inside bad))))

      go : (o : Option Candidate) → learned_within l network e set ≡ o → ((parts : List (List ℕ)) → IsPending l t network e (parts ++ waiting) → Pends l t (at_turn network (next_turn l network (kept l t network) e left (parts ++ waiting)))) →
          Pends l t (at_turn network (take_set l network (kept l t network) e set o (λ parts. next_turn l network (kept l t network) e left (parts ++ waiting)) (Asks set (record { example = e; waiting = waiting; left = left }))))
      go None none next = pick (violates_some l (kept l t network) (restrict e set)) refl (λ now. next [] now)
      go (Some c) is_c next =
          next (parts_without set (scope_of l c)) (λ d is bad fresh free.
          list_any-append (is_within (scope_of l d)) (parts_without set (scope_of l c)) waiting ∙ at d is free (or_cases (is_within (scope_of l d) set) _ (pending d is bad fresh free)))
        where
          there : has_scope network c.scope ≡ true
          there = find_all (λ x. has_scope network x.scope ≡ true) (λ x. violates l x e && is_within (scope_of l x) set) network c (λ k x low. list_any_at (λ y. y.scope == (slice_index_or network k x).scope) network k x low (eq-eqb _ _ refl)) is_c

          at : (d : Candidate) → IsCandidate l d → has_scope network d.scope ≡ false → (is_within (scope_of l d) set ≡ true) ⊎ (list_any (is_within (scope_of l d)) waiting ≡ true) →
              (list_any (is_within (scope_of l d)) (parts_without set (scope_of l c)) || list_any (is_within (scope_of l d)) waiting) ≡ true
          at d is free (inr later) = or_right _ _ later
          at d is free (inl inside) = or_left _ _ (split_pending c d (find_all (IsCandidate l) (λ x. violates l x e && is_within (scope_of l x) set) network c legal is_c) is
              (λ same. both_ways _ free (ap (has_scope network) same ∙ there)) set inside)

  go_on_pends : (t : List Answer) (network : List Candidate) (walk : Option Walk) → IsNetwork l network → IsOnPending l t network walk → Pends l t (go_on l t network walk)
  go_on_pends t network None legal on = tt
  go_on_pends t network (Some walk) legal on = turn_pends t network walk.example legal walk.left walk.waiting on

  settle_pends : (t : List Answer) (s : ℕ) (choices : List Choice) (network : List Candidate) (walk : Option Walk) → IsHalfway l t s choices network → IsOnPending l t network walk → Pends l t (settle_choices l t s choices network walk)
  settle_pends t s choices network walk half on = go (splitting_tuple (scene_of l s) choices) refl
    where
      go : (o : Option (List ℕ)) → splitting_tuple (scene_of l s) choices ≡ o → Pends l t (chosen l t s choices network walk o)
      go (Some u) e = on
      go None e = go_on_pends t (learn network s (remaining choices)) walk (settled l lawful t s choices network half e).legal (on_pending_learned l t network s (remaining choices) walk on)

  found_pends : (t : List Answer) (e : Assignment) (set : List ℕ) (replies : List Bool) (network : List Candidate) (walk : Option Walk) → IsHalving l t e set replies network → IsOnPending l t network walk →
      (s : List ℕ) (left : List Bool) → halve set replies ≡ Got s left → Pends l t (found l t e network walk (position (is_same s) l.scopes))
  found_pends t e set replies network walk half on s left got = go (position (is_same s) l.scopes) refl
    where
      begin : (n : ℕ) → position (is_same s) l.scopes ≡ Some n → (choices : List Choice) → violated_choices l (kept l t network) e n ≡ choices → Pends l t (begin_choosing l t n choices network walk)
      begin n is [] are = tt
      begin n is (x ∷ choices) are =
          settle_pends t n (x ∷ choices) network walk
          (subst (λ (cs : List Choice). IsHalfway l t n cs network) are
          (begin_found l lawful t e set replies network half s left got n is (let long = ap length are in omega arith)
          (free_there l lawful t e set replies network half s left got n is x choices are))) on

      go : (o : Option ℕ) → position (is_same s) l.scopes ≡ o → Pends l t (found l t e network walk o)
      go None none = tt
      go (Some n) is = begin n is (violated_choices l (kept l t network) e n) refl

  settle_halving_pends : (t : List Answer) (e : Assignment) (set : List ℕ) (replies : List Bool) (network : List Candidate) (walk : Option Walk) → IsHalving l t e set replies network → IsOnPending l t network walk →
      Pends l t (settle_halving l t e set replies network walk)
  settle_halving_pends t e set replies network walk half on =
      go (with_quiet_replies l (kept l t network) e set (2 * length set) replies) (settled_halving l t e set network replies half)
    where
      go : (all : List Bool) → IsHalving l t e set all network → Pends l t (halved l t e set all network walk (halve set all))
      go all half = at (halve set all) refl
        where
          at : (h : Halved) → halve set all ≡ h → Pends l t (halved l t e set all network walk h)
          at (Wants w) wants = on
          at (Got s left) got = found_pends t e set all network walk half on s left got

  -- ---- a step

  reply_choosing_pends : (t : List Answer) (a : Answer) (s : ℕ) (choices : List Choice) (network : List Candidate) (walk : Option Walk) → IsHalfway l t s choices network → IsOnPending l t network walk →
      is_just (option_map (on_scope l s) (splitting_tuple (scene_of l s) choices)) a.question ≡ true → Pends l (t ++ a ∷ []) (replied l (t ++ a ∷ []) a.yes (Choosing s choices network walk))
  reply_choosing_pends t a s choices network walk half on just =
      let asked = asked_is l s (splitting_tuple (scene_of l s) choices) a.question just in
      subst (λ (o : Option (List ℕ)). Pends l (t ++ a ∷ []) (settle_choices l (t ++ a ∷ []) s (replied_tuple (scene_of l s) a.yes choices o) network walk)) (sym asked.1)
      (settle_pends (t ++ a ∷ []) s (after_reply (scene_of l s) asked.0 a.yes choices) network walk (reply_halfway l lawful t s choices network asked.0 a half asked.1 asked.2)
      (on_pending_later l t a network walk on))

  reply_walking_pends : (t : List Answer) (a : Answer) (set : List ℕ) (walk : Walk) (network : List Candidate) → IsWalking l t set walk network → Pends l t (Walking set walk network) →
      a.question ≡ restrict walk.example set → (b : Bool) → a.yes ≡ b → Pends l (t ++ a ∷ []) (replied l (t ++ a ∷ []) b (Walking set walk network))
  reply_walking_pends t a set walk network is pending asked true said =
      go_on_pends (t ++ a ∷ []) network (Some walk) is.sound.legal (λ c is_c bad fresh free.
      at c bad fresh (or_cases (is_within (scope_of l c) set) _ (pending c is_c bad (not_struck_before l t a c fresh) free)))
    where
      at : (c : Candidate) → violates l c walk.example ≡ true → is_struck l (t ++ a ∷ []) c ≡ false → (is_within (scope_of l c) set ≡ true) ⊎ (list_any (is_within (scope_of l c)) walk.waiting ≡ true) →
          list_any (is_within (scope_of l c)) walk.waiting ≡ true
      at c bad fresh (inr later) = later
      at c bad fresh (inl inside) = absurd (both_ways _ fresh (struck_now l t a c said (ap (violates l c) asked ∙ violates_restrict l c walk.example set ∙ and_from _ _ inside bad)))
  reply_walking_pends t a set walk network is pending asked false denied =
      settle_halving_pends (t ++ a ∷ []) walk.example set [] network (Some (record walk { waiting = set ∷ walk.waiting }))
      (begin_halving l t network walk.example set a is.sound is.on.size is.on.complete is.rises is.accepted asked denied)
      (pending_later l t a network walk.example (set ∷ walk.waiting) pending)

  begun_pends : (plan : Plan) (t : List Answer) (a : Answer) (network : List Candidate) → IsSound l t network → is_lawful l plan (kept l t network) network a.question ≡ true →
      Pends l (t ++ a ∷ []) (begun l plan (t ++ a ∷ []) (kept l t network) network a.question a.yes)
  begun_pends Scopes t a network sound just = go (next_scope l (kept l t network) network) refl just
    where
      go : (o : Option ℕ) → next_scope l (kept l t network) network ≡ o →
          is_just (option_and_then (λ s. option_map (on_scope l s) (splitting_tuple (scene_of l s) (free_choices (kept l t network) s))) o) a.question ≡ true →
          Pends l (t ++ a ∷ []) (on_scope_asked l (t ++ a ∷ []) a.yes (kept l t network) network o)
      go None e just = absurd (both_ways _ refl just)
      go (Some s) e just = reply_choosing_pends t a s (free_choices (kept l t network) s) network None (begin_halfway l t network s sound e) tt just
  begun_pends Quacq t a network sound h = go a.yes refl (put_is l lawful network (kept l t network) a.question h)
    where
      go : (b : Bool) → a.yes ≡ b → IsPut l lawful network (kept l t network) a.question → Pends l (t ++ a ∷ []) (begun l Quacq (t ++ a ∷ []) (kept l t network) network a.question b)
      go true said put = tt
      go false denied put =
          settle_halving_pends (t ++ a ∷ []) a.question (numbers (variable_count l)) [] network None
          (begin_halving l t network a.question (numbers (variable_count l)) a sound put.size put.complete (rises_range 0 (variable_count l) (let few = lawful.few_variables in omega arith))
          (whole_accepted l lawful network (kept l t network) a.question put) (sym (restrict_all a.question (variable_count l) put.size)) denied) tt
  begun_pends Multi t a network sound h = go (put_is l lawful network (kept l t network) a.question h)
    where
      go : IsPut l lawful network (kept l t network) a.question → Pends l (t ++ a ∷ []) (begun l Multi (t ++ a ∷ []) (kept l t network) network a.question a.yes)
      go put =
          subst (λ (turn : Turn). Pends l (t ++ a ∷ []) (replied l (t ++ a ∷ []) a.yes (at_turn network turn))) (sym turn)
          (reply_walking_pends t a (numbers (variable_count l)) (record { example = a.question; waiting = []; left = 4095 }) network (record {
            sound = sound;
            on = record { size = put.size; complete = put.complete; waiting = All-nil (Rises 0) };
            rises = rises_range 0 (variable_count l) (let few = lawful.few_variables in omega arith);
            accepted = whole_accepted l lawful network (kept l t network) a.question put;
          }) (λ c is bad fresh free. or_left _ false (sub_within (scope_of l c) (numbers (variable_count l)) 0 (rising_scope l lawful c is) (λ v low at.
          any_number (λ x. x == v) (variable_count l) v (has_all (λ v. v < variable_count l) (scope_of l c) v (below_count l lawful c is) at) (eq-eqb v v refl))))
          (sym (restrict_all a.question (variable_count l) put.size)) a.yes refl)
        where
          turn : next_turn l network (kept l t network) a.question MOST_SETS (numbers (variable_count l) ∷ []) ≡ Asks (numbers (variable_count l)) (record { example = a.question; waiting = []; left = 4095 })
          turn = first_turn l lawful network (kept l t network) a.question 4095 (numbers (variable_count l))
              (find_nothing l lawful (λ c. violates l c a.question && is_within (scope_of l c) (numbers (variable_count l))) network (λ k d below. and_left _ _ (accepted_at l network a.question put.accepted k d below)))
              (ap (violates_some l (kept l t network)) (restrict_all a.question (variable_count l) put.size) ∙ put.bites)

  step_pends : (plan : Plan) (t : List Answer) (a : Answer) (state next : State) → Holds l t state → Pends l t state → step l plan t a state ≡ Some next → Pends l (t ++ a ∷ []) next
  step_pends plan t a (Over network) next holds pends h = absurd (let bad : ⊥ = cc in bad)
  step_pends plan t a (Idle network end) next sound pends h =
      let both = passed _ _ next h in
      subst (Pends l (t ++ a ∷ [])) both.1 (begun_pends plan t a network sound both.0)
  step_pends plan t a (Choosing s choices network walk) next (half, on) pends h =
      let both = passed _ _ next h in
      subst (Pends l (t ++ a ∷ [])) both.1 (reply_choosing_pends t a s choices network walk half pends both.0)
  step_pends plan t a (Halving e set replies network walk) next (half, on, asking) pends h =
      let both = passed _ _ next h in
      subst (Pends l (t ++ a ∷ [])) both.1
      (settle_halving_pends (t ++ a ∷ []) e set (replies ++ a.yes ∷ []) network walk
      (reply_halving l lawful t e set replies network asking.wanted a half asking.wants (asked_set l lawful e a.question asking.wanted (halve set replies) asking.wants both.0))
      (on_pending_later l t a network walk pends))
  step_pends plan t a (Walking set walk network) next is pends h =
      let both = passed _ _ next h in
      subst (Pends l (t ++ a ∷ [])) both.1 (reply_walking_pends t a set walk network is pends (sym (same_assignment (restrict walk.example set) a.question both.0)) a.yes refl)

  holds_and_pends : (plan : Plan) (t : List Answer) (state : State) → state_after l plan t ≡ At state → Holds l t state × Pends l t state
  holds_and_pends plan t state h = reached l plan (λ t state. Holds l t state × Pends l t state) (nothing_yet l, tt)
      (λ t a state next both at. (step_holds l lawful plan t a state next both.0 at, step_pends plan t a state next both.0 both.1 at)) t state h

ended : (l : Language) (plan : Plan) (t : List Answer) (network : List Candidate) (e : Assignment) → IsLanguage l → state_after l plan t ≡ At (Idle network (Some (Ended e))) → IsWalked l t network e
ended l plan t network e lawful h = record {
  quiet = quiet_there;
  learned = λ other is_other one_each agreeing k d low bad. in_network other is_other one_each agreeing k d low bad;
}
  where
    holding : IsSound l t network
    holding = (holds_and_pends l lawful plan t (Idle network (Some (Ended e))) h).0

    pending_at : IsPending l t network e []
    pending_at = (holds_and_pends l lawful plan t (Idle network (Some (Ended e))) h).1

    quiet_there : violates_some l (kept l t network) e ≡ false
    quiet_there = false_from_ne_true _ (λ bites. clash (Any-from_list_any (λ c. (not (is_struck l t c) && not (has_scope network c.scope)) && violates l c e) (candidates l)
        (sym (any-filter (λ c. violates l c e) (λ c. not (is_struck l t c) && not (has_scope network c.scope)) (candidates l)) ∙ bites)))
      where
        clash : Any (λ c. ((not (is_struck l t c) && not (has_scope network c.scope)) && violates l c e) ≡ true) (candidates l) → ⊥
        clash (k, c, low, at, is) =
            let both = and_parts (not (is_struck l t c) && not (has_scope network c.scope)) (violates l c e) is in
            let live = and_parts (not (is_struck l t c)) (not (has_scope network c.scope)) both.0 in
            both_ways _ refl (pending_at
            c (subst (IsCandidate l) at (all_candidates l k c low)) both.1 (not-true _ live.0) (not-true _ live.1))

    in_network : (other : List Candidate) → IsNetwork l other → AllPairs (λ c d. (c.scope ≡ d.scope) → ⊥) other → agrees l other t ≡ true → (k : ℕ) (d : Candidate) → k < length other → violates l (slice_index_or other k d) e ≡ true →
        Contains network (slice_index_or other k d)
    in_network other is_other one_each agreeing k x low bad =
        let sound : IsSound l t network = holding in
        let there : has_scope network (slice_index_or other k x).scope ≡ true = true_from_ne_false _ (λ free. both_ways _ refl
        (pending_at
        (slice_index_or other k x) (is_other k x low) bad (fresh_in l lawful t network sound.legal sound.told other is_other agreeing k x low) free)) in
        let found = Any-from_list_any (λ b. b.scope == (slice_index_or other k x).scope) network there in
        same_there found.0 found.1 found.2 (eqb-true _ _ (ap (λ (y : Candidate). y.scope == (slice_index_or other k x).scope) found.3 ∙ found.4)) sound
      where
        -- one candidate a scope: what lies on its scope is it
        only_one : (j : ℕ) (y : Candidate) → j < length other → (slice_index_or other j y).scope ≡ (slice_index_or other k x).scope → slice_index_or other j y ≡ slice_index_or other k x
        only_one j y below same = go (cases_order j k)
          where
            go : (j ≡ k) ⊎ ((j < k) ⊎ (k < j)) → slice_index_or other j y ≡ slice_index_or other k x
            go (inl e) = (λ i. slice_index_or other (e i) y) ∙ get_or_default other k y x low
            go (inr (inl before)) = absurd (one_each j k y before low (same ∙ ap (λ (c : Candidate). c.scope) (sym (get_or_default other k y x low))))
            go (inr (inr after)) = absurd (one_each k j x after below (sym same ∙ ap (λ (c : Candidate). c.scope) (get_or_default other j y x below)))

        same_there : (j : ℕ) (b : Candidate) → j < length network → (slice_index_or network j b).scope ≡ (slice_index_or other k x).scope → IsSound l t network → Contains network (slice_index_or other k x)
        same_there j b below same sound = go (cases_eq (slice_index_or other k x).rel (slice_index_or network j b).rel)
          where
            missing : (is_struck l t (slice_index_or other k x) ≡ true) ⊎ Any (λ a. IsNoOn l (slice_index_or network j b) a × (violates l (slice_index_or other k x) a.question ≡ false)) t → ⊥
            missing (inl struck) = both_ways _ (fresh_in l lawful t network sound.legal sound.told other is_other agreeing k x low) struck
            missing (inr (m, a, low_m, at, (noon, fine))) =
                let found = Any-from_list_any (λ c. (c.scope == (slice_index_or network j b).scope) && violates l c a.question) other
                (denied l lawful t other is_other agreeing (slice_index_or network j b) (sound.legal j b below) m a low_m at noon) in
                let parts = and_parts (found.1.scope == (slice_index_or network j b).scope) (violates l found.1 a.question) found.4 in
                both_ways _ fine (ap (λ (c : Candidate). violates l c a.question) (sym (only_one found.0 found.1 found.2
                (ap (λ (c : Candidate). c.scope) found.3 ∙ eqb-true _ _ parts.0 ∙ same)) ∙ found.3) ∙ parts.1)

            go : ((slice_index_or other k x).rel ≡ (slice_index_or network j b).rel) ⊎ ((slice_index_or other k x).rel ≡ (slice_index_or network j b).rel → ⊥) → Contains network (slice_index_or other k x)
            go (inl rel) = (j, below, get_or_default network j (slice_index_or other k x) b below ∙ (λ i. record { scope = same i; rel = sym rel i }))
            go (inr differs) = absurd (missing (sound.told j b below (slice_index_or other k x) (is_other k x low) (sym same) differs))

pub ended_is_walked : EndedIsWalked
ended_is_walked l t (Idle network end) e lawful at is =
    ended l Multi t network e lawful (at ∙ ap (λ o. At (Idle network o)) (sym (ap end_in at) ∙ is))
ended_is_walked l t (Halving x set replies network walk) e lawful at is = absurd (let bad : None ≡ Some (Ended e) = sym (ap end_in at) ∙ is in cc)
ended_is_walked l t (Choosing s choices network walk) e lawful at is = absurd (let bad : None ≡ Some (Ended e) = sym (ap end_in at) ∙ is in cc)
ended_is_walked l t (Walking set walk network) e lawful at is = absurd (let bad : None ≡ Some (Ended e) = sym (ap end_in at) ∙ is in cc)
ended_is_walked l t (Over network) e lawful at is = absurd (let bad : None ≡ Some (Ended e) = sym (ap end_in at) ∙ is in cc)
