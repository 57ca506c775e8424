-- What holds of every state of a session, whatever its plan.
use Rattle.session_laws.proofs.Prelude.{◌≡◌, ℕ, zero, suc, ◌*◌, ◌<◌, Bool, true, false, cond, ◌&&◌, not, List, [], ◌∷◌, ◌++◌, length, Option, Some, None, refl, sym, ◌∙◌, ap, subst, arith, inl, inr, ◌⊎◌, ◌==◌, All, slice_index_or, position, option_map, option_and_then, find, beq, All-map, All-nil, All-cons, All-append, Any-from_list_any, list_any_at, cases_Bool, and_parts, and_from, and_left, both_ways, not_from_false, not-false, eqb-true, eq-eqb, Candidate, Plan, Scopes, Quacq, Multi, numbers, is_within, is_same, without, Rises, Assignment, restrict, is_complete, Language, IsLanguage, IsCandidate, IsImplied, candidates, variable_count, scope_of, is_question, violates, accepts, Answer, NoneAgrees, has_scope, is_struck, kept, Halved, Wants, Got, halve, Choice, splitting_tuple, after_reply, remaining, accepted_at, accepted_from, Walk, Turn, Asks, violates_some, learned_within, parts_without, take_set, next_turn, State, Idle, Halving, Choosing, Walking, Over, At, MOST_SETS, wanted_set, next_scope, learn, at_turn, go_on, settle_choices, chosen, begin_choosing, found, is_quiet, with_quiet_replies, halved, settle_halving, is_just, replied, replied_tuple, on_scope_asked, begun, is_lawful, step, state_after, scene_of, on_scope, free_choices, violated_choices, IsAsking, HalvingAsks, IdleIsInStep, ImpliedIsCovered, OverMeansNone, rises_where, find_none, any-filter, any_candidate}
use Rattle.session_laws.proofs.Fuel.{fuel_is_enough}
use Rattle.session_laws.proofs.Restrict.{violates_restrict, restrict_all, rises_range}
use Rattle.session_laws.proofs.Folds.{same_assignment, passed, asked_is, reached}
use Rattle.session_laws.proofs.Choices.{IsSound, IsHalfway, begin_halfway, reply_halfway, settled, nothing_yet}
use Rattle.session_laws.proofs.Halving.{IsHalving, sound_more, begin_halving, reply_halving, settled_halving}
use Rattle.session_laws.proofs.FoundScope.{no_scope, no_choice, begin_found, free_there}

pub same_state : (s t : State) → At s ≡ At t → s ≡ t
same_state s t e = cc

-- ---- what holds

-- a walk of a complete example over sets
pub record IsWalkOf (l : Language) (walk : Walk) : Type 0 where
  pub size : length walk.example ≡ variable_count l
  pub complete : is_complete walk.example ≡ true
  pub waiting : All (Rises 0) walk.waiting

abbrev pub IsOnWalk : Language → Option Walk → Type 0
IsOnWalk l None = Unit {0}
IsOnWalk l (Some walk) = IsWalkOf l walk

-- a part of the example is asked about that the network accepts
pub record IsWalking (l : Language) (t : List Answer) (set : List ℕ) (walk : Walk) (network : List Candidate) : Type 0 where
  pub sound : IsSound l t network
  pub on : IsWalkOf l walk
  pub rises : Rises 0 set
  pub accepted : accepts l network (restrict walk.example set) ≡ true

abbrev pub Holds : Language → List Answer → State → Type 0
Holds l t (Idle network end) = IsSound l t network
Holds l t (Choosing s choices network walk) = IsHalfway l t s choices network × IsOnWalk l walk
Holds l t (Halving e set replies network walk) = IsHalving l t e set replies network × IsOnWalk l walk × IsAsking l t e set replies network
Holds l t (Walking set walk network) = IsWalking l t set walk network
Holds l t (Over network) = NoneAgrees l t

-- ---- on with a walk

-- where no learned candidate within the set is violated, the network accepts the example there
pub accepted_within : (l : Language) (network : List Candidate) (e : Assignment) (set : List ℕ) → learned_within l network e set ≡ None → accepts l network (restrict e set) ≡ true
accepted_within l network e set none = accepted_from l network (restrict e set) (λ k d low bad.
    let parts = and_parts (is_within (scope_of l (slice_index_or network k d)) set) (violates l (slice_index_or network k d) e) (sym (violates_restrict l (slice_index_or network k d) e set) ∙ bad) in
    both_ways _ (find_none (λ c. violates l c e && is_within (scope_of l c) set) network none)
    (list_any_at (λ c. violates l c e && is_within (scope_of l c) set) network k d low (and_from _ _ parts.1 parts.0)))

turn_holds : (l : Language) (t : List Answer) (network live : List Candidate) (e : Assignment) → IsSound l t network → length e ≡ variable_count l → is_complete e ≡ true →
    (left : ℕ) (waiting : List (List ℕ)) → All (Rises 0) waiting → Holds l t (at_turn network (next_turn l network live e left waiting))
unfolding next_turn
turn_holds l t network live e sound size complete zero [] all = sound
turn_holds l t network live e sound size complete (suc left) [] all = sound
turn_holds l t network live e sound size complete zero (set ∷ waiting) all = sound
turn_holds l t network live e sound size complete (suc left) (set ∷ waiting) all =
    go (learned_within l network e set) refl (λ parts rising. turn_holds l t network live e sound size complete left (parts ++ waiting) (All-append (Rises 0) parts waiting rising rest))
  where
    rest : All (Rises 0) waiting
    rest = λ k d low. all (suc k) d (omega arith)

    go : (o : Option Candidate) → learned_within l network e set ≡ o → ((parts : List (List ℕ)) → All (Rises 0) parts → Holds l t (at_turn network (next_turn l network live e left (parts ++ waiting)))) →
        Holds l t (at_turn network (take_set l network live e set o (λ parts. next_turn l network live e left (parts ++ waiting)) (Asks set (record { example = e; waiting = waiting; left = left }))))
    go (Some c) found next = next (parts_without set (scope_of l c)) (All-map (Rises 0) (λ v. without set v) (scope_of l c) (λ k d low. rises_where _))
    go None none next = elim (violates_some l live (restrict e set)) as (λ b. Holds l t (at_turn network (elim b [
      | true ↦ Asks set (record { example = e; waiting = waiting; left = left })
      | false ↦ next_turn l network live e left ([] ++ waiting)
    ]))) [
      | true ↦ record {
        sound = sound;
        on = record { size = size; complete = complete; waiting = rest };
        rises = all 0 set (omega arith);
        accepted = accepted_within l network e set none;
      }
      | false ↦ next [] (All-nil (Rises 0))
    ]

go_on_holds : (l : Language) (t : List Answer) (network : List Candidate) (walk : Option Walk) → IsSound l t network → IsOnWalk l walk → Holds l t (go_on l t network walk)
go_on_holds l t network None sound on = sound
go_on_holds l t network (Some walk) sound on = turn_holds l t network (kept l t network) walk.example sound on.size on.complete walk.left walk.waiting on.waiting

module _ (l : Language) (lawful : IsLanguage l) where
  -- ---- settling

  pub settle_holds : (t : List Answer) (s : ℕ) (choices : List Choice) (network : List Candidate) (walk : Option Walk) → IsHalfway l t s choices network → IsOnWalk l walk →
      Holds l t (settle_choices l t s choices network walk)
  settle_holds t s choices network walk half on = go (splitting_tuple (scene_of l s) choices) refl
    where
      go : (o : Option (List ℕ)) → splitting_tuple (scene_of l s) choices ≡ o → Holds l t (chosen l t s choices network walk o)
      go (Some u) e = (half, on)
      go None e = go_on_holds l t (learn network s (remaining choices)) walk (settled l lawful t s choices network half e) on

  pub found_holds : (t : List Answer) (e : Assignment) (set : List ℕ) (replies : List Bool) (network : List Candidate) (walk : Option Walk) → IsHalving l t e set replies network → IsOnWalk l walk →
      (s : List ℕ) (left : List Bool) → halve set replies ≡ Got s left → Holds l t (found l t e network walk (position (is_same s) l.scopes))
  found_holds t e set replies network walk half on s left got = go (position (is_same s) l.scopes) refl
    where
      begin : (n : ℕ) → position (is_same s) l.scopes ≡ Some n → (choices : List Choice) → violated_choices l (kept l t network) e n ≡ choices → Holds l t (begin_choosing l t n choices network walk)
      begin n is [] are = no_choice l lawful t e set replies network half s left got n is are
      begin n is (x ∷ choices) are =
          settle_holds t n (x ∷ choices) network walk
          (subst (λ (cs : List Choice). IsHalfway l t n cs network) are
          (begin_found l lawful t e set replies network half s left got n is (let long = ap length are in omega arith)
          (free_there l lawful t e set replies network half s left got n is x choices are))) on

      go : (o : Option ℕ) → position (is_same s) l.scopes ≡ o → Holds l t (found l t e network walk o)
      go None none = no_scope l lawful t e set replies network half s left got none
      go (Some n) is = begin n is (violated_choices l (kept l t network) e n) refl

  settle_halving_holds : (t : List Answer) (e : Assignment) (set : List ℕ) (replies : List Bool) (network : List Candidate) (walk : Option Walk) → IsHalving l t e set replies network → IsOnWalk l walk →
      Holds l t (settle_halving l t e set replies network walk)
  settle_halving_holds t e set replies network walk half on =
      go (with_quiet_replies l (kept l t network) e set (2 * length set) replies) (settled_halving l t e set network replies half) (fuel_is_enough l (kept l t network) e set replies)
    where
      go : (all : List Bool) → IsHalving l t e set all network → is_quiet l (kept l t network) e (halve set all) ≡ false → Holds l t (halved l t e set all network walk (halve set all))
      go all half loud = at (halve set all) refl loud
        where
          at : (h : Halved) → halve set all ≡ h → is_quiet l (kept l t network) e h ≡ false → Holds l t (halved l t e set all network walk h)
          at (Wants w) wants loud = (half, on, record { wanted = w; wants = wants; bites = not-false _ loud })
          at (Got s left) got loud = found_holds t e set all network walk half on s left got

  -- ---- replies

  reply_choosing : (t : List Answer) (a : Answer) (s : ℕ) (choices : List Choice) (network : List Candidate) (walk : Option Walk) → IsHalfway l t s choices network → IsOnWalk l walk →
      is_just (option_map (on_scope l s) (splitting_tuple (scene_of l s) choices)) a.question ≡ true → Holds l (t ++ a ∷ []) (replied l (t ++ a ∷ []) a.yes (Choosing s choices network walk))
  reply_choosing t a s choices network walk half on just =
      let asked = asked_is l s (splitting_tuple (scene_of l s) choices) a.question just in
      subst (λ (o : Option (List ℕ)). Holds l (t ++ a ∷ []) (settle_choices l (t ++ a ∷ []) s (replied_tuple (scene_of l s) a.yes choices o) network walk)) (sym asked.1)
      (settle_holds (t ++ a ∷ []) s (after_reply (scene_of l s) asked.0 a.yes choices) network walk (reply_halfway l lawful t s choices network asked.0 a half asked.1 asked.2) on)

  pub asked_set : (e : Assignment) (q : Assignment) (w : List ℕ) (h : Halved) → h ≡ Wants w → is_just (option_map (restrict e) (wanted_set h)) q ≡ true → q ≡ restrict e w
  asked_set e q w h wants just = sym (same_assignment (restrict e w) q (subst (λ (x : Halved). is_just (option_map (restrict e) (wanted_set x)) q ≡ true) wants just))

  reply_walking : (t : List Answer) (a : Answer) (set : List ℕ) (walk : Walk) (network : List Candidate) → IsWalking l t set walk network → a.question ≡ restrict walk.example set →
      (b : Bool) → a.yes ≡ b → Holds l (t ++ a ∷ []) (replied l (t ++ a ∷ []) b (Walking set walk network))
  reply_walking t a set walk network is asked true said =
      go_on_holds l (t ++ a ∷ []) network (Some walk) (sound_more l t network a is.sound ((λ i. beq ((ap (accepts l network) asked ∙ is.accepted) i) (said i)))) is.on
  reply_walking t a set walk network is asked false denied =
      settle_halving_holds (t ++ a ∷ []) walk.example set [] network (Some (record walk { waiting = set ∷ walk.waiting }))
      (begin_halving l t network walk.example set a is.sound is.on.size is.on.complete is.rises is.accepted asked denied)
      (record { size = is.on.size; complete = is.on.complete; waiting = All-cons (Rises 0) set walk.waiting is.rises is.on.waiting })

  -- ---- a new question

  pub record IsPut (network live : List Candidate) (q : Assignment) : Type 0 where
    pub size : length q ≡ variable_count l
    pub complete : is_complete q ≡ true
    pub accepted : accepts l network q ≡ true
    pub bites : violates_some l live q ≡ true

  pub put_is : (network live : List Candidate) (q : Assignment) → (is_question l q && is_complete q && accepts l network q && violates_some l live q) ≡ true → IsPut network live q
  put_is network live q h =
      let one = and_parts (is_question l q && is_complete q && accepts l network q) (violates_some l live q) h in
      let two = and_parts (is_question l q && is_complete q) (accepts l network q) one.0 in
      let three = and_parts (is_question l q) (is_complete q) two.0 in
      record { size = eqb-true _ _ (and_parts (length q == variable_count l) _ three.0).0; complete = three.1; accepted = two.1; bites = one.1 }

  pub whole_accepted : (network live : List Candidate) (q : Assignment) → IsPut network live q → accepts l network (restrict q (numbers (variable_count l))) ≡ true
  whole_accepted network live q put = ap (accepts l network) (restrict_all q (variable_count l) put.size) ∙ put.accepted

  begun_quacq : (t : List Answer) (a : Answer) (live network : List Candidate) → IsSound l t network → IsPut network live a.question → (b : Bool) → a.yes ≡ b →
      Holds l (t ++ a ∷ []) (begun l Quacq (t ++ a ∷ []) live network a.question b)
  begun_quacq t a live network sound put true said = sound_more l t network a sound (λ i. beq (put.accepted i) (said i))
  begun_quacq t a live network sound put false denied =
      settle_halving_holds (t ++ a ∷ []) a.question (numbers (variable_count l)) [] network None
      (begin_halving l t network a.question (numbers (variable_count l)) a sound put.size put.complete (rises_range 0 (variable_count l) (let few = lawful.few_variables in omega arith))
      (whole_accepted network live a.question put) (sym (restrict_all a.question (variable_count l) put.size)) denied) tt

  pub find_nothing : (p : Candidate → Bool) (cs : List Candidate) → ((k : ℕ) (d : Candidate) → k < length cs → p (slice_index_or cs k d) ≡ false) → find p cs ≡ None
  find_nothing p [] h = refl
  find_nothing p (c ∷ cs) h = ap (λ b. cond b (Some c) (find p cs)) (h 0 c (omega arith)) ∙ find_nothing p cs (λ k d low. h (suc k) d (omega arith))

  pub first_turn : (network live : List Candidate) (q : Assignment) (left : ℕ) (set : List ℕ) → learned_within l network q set ≡ None → violates_some l live (restrict q set) ≡ true →
      next_turn l network live q (suc left) (set ∷ []) ≡ Asks set (record { example = q; waiting = []; left = left })
  unfolding next_turn
  first_turn network live q left set none bites =
      ap (λ o. take_set l network live q set o (λ parts. next_turn l network live q left (parts ++ [])) (Asks set (record { example = q; waiting = []; left = left }))) none
      ∙ ap (λ b. elim b [
        | true ↦ Asks set (record { example = q; waiting = []; left = left })
        | false ↦ next_turn l network live q left ([] ++ [])
      ]) bites

  begun_multi : (t : List Answer) (a : Answer) (live network : List Candidate) → IsSound l t network → IsPut network live a.question → Holds l (t ++ a ∷ []) (begun l Multi (t ++ a ∷ []) live network a.question a.yes)
  begun_multi t a live network sound put =
      subst (λ (turn : Turn). Holds l (t ++ a ∷ []) (replied l (t ++ a ∷ []) a.yes (at_turn network turn))) (sym turn)
      (reply_walking t a (numbers (variable_count l)) (record { example = a.question; waiting = []; left = 4095 }) network (record {
        sound = sound;
        on = record { size = put.size; complete = put.complete; waiting = All-nil (Rises 0) };
        rises = rises_range 0 (variable_count l) (let few = lawful.few_variables in omega arith);
        accepted = whole_accepted network live a.question put;
      }) (sym (restrict_all a.question (variable_count l) put.size)) a.yes refl)
    where
      turn : next_turn l network live a.question MOST_SETS (numbers (variable_count l) ∷ []) ≡ Asks (numbers (variable_count l)) (record { example = a.question; waiting = []; left = 4095 })
      turn = first_turn network live a.question 4095 (numbers (variable_count l))
          (find_nothing (λ c. violates l c a.question && is_within (scope_of l c) (numbers (variable_count l))) network (λ k d low. and_left _ _ (accepted_at l network a.question put.accepted k d low)))
          (ap (violates_some l live) (restrict_all a.question (variable_count l) put.size) ∙ put.bites)

  begun_scopes : (t : List Answer) (a : Answer) (network : List Candidate) → IsSound l t network → is_lawful l Scopes (kept l t network) network a.question ≡ true →
      Holds l (t ++ a ∷ []) (begun l Scopes (t ++ a ∷ []) (kept l t network) network a.question a.yes)
  begun_scopes t a network sound just = go (next_scope l (kept l t network) network) refl just
    where
      go : (o : Option ℕ) → next_scope l (kept l t network) network ≡ o →
          is_just (option_and_then (λ s. option_map (on_scope l s) (splitting_tuple (scene_of l s) (free_choices (kept l t network) s))) o) a.question ≡ true →
          Holds l (t ++ a ∷ []) (on_scope_asked l (t ++ a ∷ []) a.yes (kept l t network) network o)
      go None e just = absurd (both_ways _ refl just)
      go (Some s) e just = reply_choosing t a s (free_choices (kept l t network) s) network None (begin_halfway l t network s sound e) tt just

  pub begun_holds : (plan : Plan) (t : List Answer) (a : Answer) (network : List Candidate) → IsSound l t network → is_lawful l plan (kept l t network) network a.question ≡ true →
      Holds l (t ++ a ∷ []) (begun l plan (t ++ a ∷ []) (kept l t network) network a.question a.yes)
  begun_holds Scopes t a network sound h = begun_scopes t a network sound h
  begun_holds Quacq t a network sound h = begun_quacq t a (kept l t network) network sound (put_is network (kept l t network) a.question h) a.yes refl
  begun_holds Multi t a network sound h = begun_multi t a (kept l t network) network sound (put_is network (kept l t network) a.question h)

  -- ---- the fold

  pub step_holds : (plan : Plan) (t : List Answer) (a : Answer) (state next : State) → Holds l t state → step l plan t a state ≡ Some next → Holds l (t ++ a ∷ []) next
  step_holds plan t a (Over network) next holds h = absurd (let bad : ⊥ = cc in bad)
  step_holds plan t a (Idle network end) next sound h =
      let both = passed _ _ next h in
      subst (Holds l (t ++ a ∷ [])) both.1 (begun_holds plan t a network sound both.0)
  step_holds plan t a (Choosing s choices network walk) next (half, on) h =
      let both = passed _ _ next h in
      subst (Holds l (t ++ a ∷ [])) both.1 (reply_choosing t a s choices network walk half on both.0)
  step_holds plan t a (Halving e set replies network walk) next (half, on, asking) h =
      let both = passed _ _ next h in
      subst (Holds l (t ++ a ∷ [])) both.1
      (settle_halving_holds (t ++ a ∷ []) e set (replies ++ a.yes ∷ []) network walk
      (reply_halving l lawful t e set replies network asking.wanted a half asking.wants (asked_set e a.question asking.wanted (halve set replies) asking.wants both.0)) on)
  step_holds plan t a (Walking set walk network) next is h =
      let both = passed _ _ next h in
      subst (Holds l (t ++ a ∷ [])) both.1 (reply_walking t a set walk network is (sym (same_assignment (restrict walk.example set) a.question both.0)) a.yes refl)

  pub holds_always : (plan : Plan) (t : List Answer) (state : State) → state_after l plan t ≡ At state → Holds l t state
  holds_always plan t state h = reached l plan (Holds l) (nothing_yet l) (step_holds plan) t state h

-- ---- the laws

pub halving_asks : HalvingAsks
halving_asks l plan t e set replies network walk lawful h = (holds_always l lawful plan t (Halving e set replies network walk) h).2

pub idle_is_in_step : IdleIsInStep
idle_is_in_step l plan t network end lawful h =
    let sound : IsSound l t network = holds_always l lawful plan t (Idle network end) h in
    record { lawful = sound.legal; agreeing = sound.agreeing; one_a_scope = sound.apart }

pub over_means_none : OverMeansNone
over_means_none l plan t network lawful h = holds_always l lawful plan t (Over network) h

-- what holds of each kept candidate holds of one that is not struck and whose scope is free
of_kept : (l : Language) (t : List Answer) (network : List Candidate) (P : Candidate → Type 0) (c : Candidate) → IsCandidate l c → All P (kept l t network) → is_struck l t c ≡ false → has_scope network c.scope ≡ false → P c
of_kept l t network P c is all fresh free =
    let found = Any-from_list_any (λ (x : Candidate). (x.scope == c.scope) && (x.rel == c.rel)) (kept l t network)
    (any-filter (λ (x : Candidate). (x.scope == c.scope) && (x.rel == c.rel)) (λ x. not (is_struck l t x) && not (has_scope network x.scope)) (candidates l)
    ∙ any_candidate l (λ (x : Candidate). (not (is_struck l t x) && not (has_scope network x.scope)) && ((x.scope == c.scope) && (x.rel == c.rel))) c is
    (and_from _ _ (and_from _ _ (not_from_false _ fresh) (not_from_false _ free)) (and_from _ _ (eq-eqb c.scope c.scope refl) (eq-eqb c.rel c.rel refl)))) in
    moved found.1 (and_parts _ _ found.4) (subst P found.3 (all found.0 found.1 found.2))
  where
    moved : (x : Candidate) → ((x.scope == c.scope) ≡ true) × ((x.rel == c.rel) ≡ true) → P x → P c
    moved x same at = subst P (λ i. record { scope = eqb-true x.scope c.scope same.0 i; rel = eqb-true x.rel c.rel same.1 i }) at

pub implied_is_covered : ImpliedIsCovered
implied_is_covered l plan t network end lawful h implied =
    let sound : IsSound l t network = holds_always l lawful plan t (Idle network end) h in (
      sound.legal,
      record {
        agreeing = sound.agreeing;
        one_a_scope = sound.apart;
        begun = sound.begun;
        told = sound.told;
        rest = λ c is free. go c is free (cases_Bool (is_struck l t c));
      },
    )
  where
    go : (c : Candidate) → IsCandidate l c → has_scope network c.scope ≡ false → (is_struck l t c ≡ true) ⊎ (is_struck l t c ≡ false) → (is_struck l t c ≡ true) ⊎ IsImplied l network c
    go c is free (inl struck) = inl struck
    go c is free (inr fresh) = inr (of_kept l t network (IsImplied l network) c is implied fresh free)
