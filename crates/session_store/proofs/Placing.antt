-- Events that are added have places.
use Rattle.session_store.proofs.Prelude.{◌≡◌, ◌⊎◌, ℕ, ◌-◌, ◌<◌, ◌≤◌, Bool, true, false, ◌&&◌, ◌||◌, nat_le, List, [], ◌∷◌, ◌++◌, length, get_or, drop, replicate, Option, Some, None, refl, sym, ◌∙◌, ap, subst, inl, inr, arith, is_some, cases_lt, append-nil, append_assoc, get_or-replicate, get_or-append_right, get_or_past, length-replicate, take-append-drop, Assignment, value_of, widened, Answer, standing, Event, Plan, take-widened, standing-back, Language, variable_count, standing_on, State, Idle, Halving, Choosing, Walking, Over, At, Stray, lead_on, step, questions_have_places, IsAskedAfter, IsAskedIn, answer_event, Recorded, recorded, empty_back, is_past, seen, all_seen, answer_to, answer_step, replay_on, IsStrayIn, HavePlaces}
use Rattle.std.specs.List.{list_any}
use Rattle.std.proofs.lemmas.Bool.Decides.{nat_tests}
use Rattle.assign.specs.Sets.{numbers}
use Rattle.assign.specs.declared.events.Event.TheVariants as variant
use Rattle.session_store.proofs.Replaying.{step_within}
use Rattle.session_store.proofs.Recording.{recorded_from-append, recorded_seen, answers_find, back_finds}
use Rattle.session_store.proofs.Fronts.{found_and_led, placed, replay_is_state, fronts_have_places}

-- ---- the options past the variables

none_passes : {X : Type 0} (p : X → Bool) → ((x : X) → p x ≡ false) → (xs : List X) → list_any p xs ≡ false
none_passes p h [] = refl
none_passes p h (x ∷ xs) = ap (λ b. b || list_any p xs) (h x) ∙ none_passes p h xs

none_in : (k i : ℕ) → get_or (replicate k (let o : Option ℕ = None in o)) i None ≡ None
none_in k i = go (cases_lt i k)
  where
    go : (i < k) ⊎ (k ≤ i) → get_or (replicate k (let o : Option ℕ = None in o)) i None ≡ None
    go (inl low) = get_or-replicate k i None None low
    go (inr high) = get_or_past (replicate k (let o : Option ℕ = None in o)) i None (omega (arith, high, length-replicate k (let o : Option ℕ = None in o)))

value_behind : (q : Assignment) (n v : ℕ) → length q ≡ n → n ≤ v → value_of (widened q) v ≡ None
value_behind q n v size past = get_or-append_right q (replicate (128 - length q) None) n v None size past ∙ none_in (128 - length q) (v - n)

-- an assignment that was widened has no value past its own
pub none_past : (q : Assignment) (n : ℕ) → length q ≡ n → is_past n (widened q) ≡ false
none_past q n size = none_passes (λ v. nat_le n v && is_some (value_of (widened q) v)) each (numbers 128)
  where
    below : (v : ℕ) → v < n → nat_le n v ≡ false
    below v low = grind (arith, nat_tests)

    go : (v : ℕ) (b : Bool) → (v < n) ⊎ (n ≤ v) → nat_le n v ≡ b → (nat_le n v && is_some (value_of (widened q) v)) ≡ false
    go v false which is = ap (λ b. b && is_some (value_of (widened q) v)) is
    go v true (inl low) is = absurd (let no : true ≡ false = sym is ∙ below v low in let bad : ⊥ = cc in bad)
    go v true (inr high) is = ap (λ b. b && is_some (value_of (widened q) v)) is ∙ ap is_some (value_behind q n v size high)

    each : (v : ℕ) → (nat_le n v && is_some (value_of (widened q) v)) ≡ false
    each v = go v (nat_le n v) (cases_lt v n) refl

-- ---- an answer more

pub none_placed : (l : Language) (plan : Plan) → HavePlaces l plan []
unfolding replay_on
none_placed l plan = (Idle [] None, refl)

one_more : (l : Language) (plan : Plan) (past : List Recorded) (before : List Answer) (a : Recorded) (start state next : State) → replay_on l plan before start past ≡ At state →
    answer_step l plan (before ++ all_seen (variable_count l) past) a.answer state ≡ Some next → replay_on l plan before start (past ++ a ∷ []) ≡ At next
unfolding replay_on
one_more l plan [] before a start state next h s =
    let same : start ≡ state = cc in
    ap (λ o. lead_on a.number o At) ((λ i. answer_step l plan (sym (append-nil before) i) a.answer (same i)) ∙ s)
one_more l plan (b ∷ past) before a start state next h s =
    go (answer_step l plan before b.answer start) refl h
    (λ middle rest. one_more l plan past (before ++ seen (variable_count l) b.answer ∷ []) a middle state next rest (ap (λ xs. answer_step l plan xs a.answer state) (append_assoc before (seen (variable_count l) b.answer ∷ []) (all_seen (variable_count l) past)) ∙ s))
  where
    go : (o : Option State) → answer_step l plan before b.answer start ≡ o →
        lead_on b.number o (λ middle. replay_on l plan (before ++ seen (variable_count l) b.answer ∷ []) middle past) ≡ At state →
        ((middle : State) → replay_on l plan (before ++ seen (variable_count l) b.answer ∷ []) middle past ≡ At state →
        replay_on l plan (before ++ seen (variable_count l) b.answer ∷ []) middle (past ++ a ∷ []) ≡ At next) →
        lead_on b.number (answer_step l plan before b.answer start) (λ middle. replay_on l plan (before ++ seen (variable_count l) b.answer ∷ []) middle (past ++ a ∷ [])) ≡ At next
    go None is h rest = absurd (let no : ⊥ = cc in no)
    go (Some middle) is h rest =
        ap (λ o. lead_on b.number o (λ s. replay_on l plan (before ++ seen (variable_count l) b.answer ∷ []) s (past ++ a ∷ []))) is ∙ rest middle h

-- the answer to the question that is asked has a place
asked_steps : (l : Language) (plan : Plan) (t : List Answer) (q : Assignment) (reply : Bool) (state : State) → IsAskedIn l plan t q state → (next : State) × (step l plan t (answer_to q reply) state ≡ Some next)
asked_steps l plan t q reply (Idle network end) asked = questions_have_places.put l plan t network end q reply asked
asked_steps l plan t q reply (Halving e set replies network walk) asked = questions_have_places.opened l plan t (Halving e set replies network walk) q reply asked
asked_steps l plan t q reply (Choosing s choices network walk) asked = questions_have_places.opened l plan t (Choosing s choices network walk) q reply asked
asked_steps l plan t q reply (Walking set walk network) asked = questions_have_places.opened l plan t (Walking set walk network) q reply asked
asked_steps l plan t q reply (Over network) asked = absurd asked

pub answer_has_place : (l : Language) (plan : Plan) (events : List Event) (q : Assignment) (reply : Bool) → length q ≡ variable_count l → HavePlaces l plan events → IsAskedAfter l plan (standing_on l events) q →
    HavePlaces l plan (events ++ answer_event q reply ∷ [])
answer_has_place l plan events q reply size (state, h) asked =
    let led = found_and_led (empty_back events) (replay_on l plan [] (Idle [] None) (recorded events)) state h in
    let same : asked.state ≡ state = let both : At asked.state ≡ At state = sym asked.at ∙ replay_is_state l plan events state h in cc in
    let Asked : State → Type 0 = λ s. IsAskedIn l plan (standing_on l events) q s in
    let next = asked_steps l plan (standing_on l events) q reply state (subst Asked same asked.asked) in
    let on = recorded_from-append [] 1 events (answer_event q reply ∷ []) in
    let r : Recorded = record { answer = answer_to (widened q) reply; number = on.0 } in
    let steps : answer_step l plan (all_seen (variable_count l) (recorded events)) r.answer state ≡ Some next.0 =
    ap (λ t. answer_step l plan t r.answer state) (recorded_seen l events) ∙ step_within l plan (standing_on l events) r.answer state (none_past q (variable_count l) size)
    ∙ ap (λ x. step l plan (standing_on l events) (answer_to x reply) state) (take-widened q (variable_count l) size) ∙ next.1 in
    placed l plan (events ++ answer_event q reply ∷ []) (answers_find events (widened q) reply led.0)
    (next.0, ap (replay_on l plan [] (Idle [] None)) on.1 ∙ one_more l plan (recorded events) [] r (Idle [] None) state next.0 led.1 steps)

-- ---- a take-back more

pub back_has_place : (l : Language) (plan : Plan) (events : List Event) → HavePlaces l plan events → (standing events ≡ [] → ⊥) → HavePlaces l plan (events ++ variant.Back ∷ [])
back_has_place l plan events (state, h) some =
    let led = found_and_led (empty_back events) (replay_on l plan [] (Idle [] None) (recorded events)) state h in
    let t : List Answer = standing events in
    fronts_have_places l plan events (events ++ variant.Back ∷ []) (drop (length t - 1) t) (state, h) (back_finds events led.0 some)
    (sym (take-append-drop (length t - 1) t) ∙ ap (λ (s : List Answer). s ++ drop (length t - 1) t) (sym (standing-back events)))

-- a replay of events that have places names no record
pub never_stray : (l : Language) (plan : Plan) (events : List Event) (i : ℕ) → HavePlaces l plan events → IsStrayIn l plan events i → ⊥
never_stray l plan events i (state, h) stray =
    let led = found_and_led (empty_back events) (replay_on l plan [] (Idle [] None) (recorded events)) state h in
    let bad : At state ≡ Stray i = sym led.1 ∙ stray in
    let no : ⊥ = cc in
    no
