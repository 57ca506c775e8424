-- Where the first of some answers lead, and the first record that has no place.
use Rattle.session_store.proofs.Prelude.{◌≡◌, ◌⊎◌, ℕ, ◌+◌, Bool, true, false, cond, List, [], ◌∷◌, ◌++◌, length, map, Option, Some, None, refl, sym, ◌∙◌, ap, subst, inl, inr, append-nil, append_assoc, Answer, Event, Plan, Language, variable_count, State, Idle, At, Stray, lead_on, step, state_after, read_on, Recorded, recorded, empty_back, is_past, seen, all_seen, answer_step, replay_on, unless_empty, AnswersHavePlaces, HavePlaces, ReplayIsState, FrontsHavePlaces, StrayIsFirst, IsEmptyBack, IsFirstStray}
use Rattle.session_laws.specs.Session.{Course}
use Rattle.session_store.proofs.Replaying.{replay_end, replay_step}
use Rattle.session_store.proofs.Recording.{recorded_stand, recorded_seen, empty_back_is}

-- an answer that has a place does what it does without its further options
step_is : (l : Language) (plan : Plan) (before : List Answer) (a : Answer) (state next : State) → answer_step l plan before a state ≡ Some next → step l plan before (seen (variable_count l) a) state ≡ Some next
step_is l plan before a state next h = go (is_past (variable_count l) a.question) h
  where
    go : (past : Bool) → cond past None (step l plan before (seen (variable_count l) a) state) ≡ Some next → step l plan before (seen (variable_count l) a) state ≡ Some next
    go true h = absurd (let bad : None ≡ Some next = h in cc)
    go false h = h

-- where a replay doesn't stop at its first answer, that has a place
record Begins (l : Language) (plan : Plan) (before : List Answer) (state : State) (a : Recorded) (more : List Recorded) (final : State) : Type 0 where
  next : State
  steps : answer_step l plan before a.answer state ≡ Some next
  rest : replay_on l plan (before ++ seen (variable_count l) a.answer ∷ []) next more ≡ At final

begins : (l : Language) (plan : Plan) (before : List Answer) (state final : State) (a : Recorded) (more : List Recorded) → replay_on l plan before state (a ∷ more) ≡ At final → Begins l plan before state a more final
unfolding replay_on
begins l plan before state final a more h = go (answer_step l plan before a.answer state) refl h
  where
    go : (o : Option State) → answer_step l plan before a.answer state ≡ o → lead_on a.number o (λ next. replay_on l plan (before ++ seen (variable_count l) a.answer ∷ []) next more) ≡ At final → Begins l plan before state a more final
    go None at h = absurd (let bad : Stray a.number ≡ At final = h in cc)
    go (Some next) at h = record { next = next; steps = at; rest = h }

-- ---- the parts of a replay

pub found_and_led : (o : Option ℕ) (reading : Course) (state : State) → unless_empty o reading ≡ At state → (o ≡ None) × (reading ≡ At state)
found_and_led None reading state h = (refl, h)
found_and_led (Some number) reading state h = absurd (let bad : Stray number ≡ At state = h in cc)

pub placed : (l : Language) (plan : Plan) (events : List Event) → empty_back events ≡ None → AnswersHavePlaces l plan events → HavePlaces l plan events
placed l plan events found (state, leads) = (state, ap (λ o. unless_empty o (replay_on l plan [] (Idle [] None) (recorded events))) found ∙ leads)

-- ---- the state

read_end : (l : Language) (plan : Plan) (before : List Answer) (state : State) → read_on l plan before state [] ≡ At state
unfolding read_on
read_end l plan before state = refl

read_step : (l : Language) (plan : Plan) (before : List Answer) (state next : State) (a : Answer) (t : List Answer) → step l plan before a state ≡ Some next →
    read_on l plan before state (a ∷ t) ≡ read_on l plan (before ++ a ∷ []) next t
unfolding read_on
read_step l plan before state next a t steps = ap (λ (o : Option State). lead_on (length before + 1) o (λ s. read_on l plan (before ++ a ∷ []) s t)) steps

reads_as : (l : Language) (plan : Plan) (all : List Recorded) (before : List Answer) (state final : State) → replay_on l plan before state all ≡ At final → read_on l plan before state (all_seen (variable_count l) all) ≡ At final
reads_as l plan [] before state final h = read_end l plan before state ∙ sym (replay_end l plan before state) ∙ h
reads_as l plan (a ∷ more) before state final h =
    let b = begins l plan before state final a more h in
    read_step l plan before state b.next (seen (variable_count l) a.answer) (all_seen (variable_count l) more) (step_is l plan before a.answer state b.next b.steps)
    ∙ reads_as l plan more (before ++ seen (variable_count l) a.answer ∷ []) b.next final b.rest

pub replay_is_state : ReplayIsState
replay_is_state l plan events state h =
    let led = found_and_led (empty_back events) (replay_on l plan [] (Idle [] None) (recorded events)) state h in
    ap (state_after l plan) (sym (recorded_seen l events)) ∙ reads_as l plan (recorded events) [] (Idle [] None) state led.1

-- ---- the first of the answers

front_leads : (l : Language) (plan : Plan) (front all : List Recorded) (more : List Answer) (before : List Answer) (state final : State) → map (λ (a : Recorded). a.answer) all ≡ map (λ (a : Recorded). a.answer) front ++ more →
    replay_on l plan before state all ≡ At final → (mid : State) × (replay_on l plan before state front ≡ At mid)
front_leads l plan [] all more before state final same h = (state, replay_end l plan before state)
front_leads l plan (a ∷ front) [] more before state final same h = absurd (let bad : ⊥ = cc in bad)
front_leads l plan (a ∷ front) (b ∷ all) more before state final same h =
    let first : b.answer ≡ a.answer = cc in
    let others : map (λ (a : Recorded). a.answer) all ≡ map (λ (a : Recorded). a.answer) front ++ more = cc in
    let on = begins l plan before state final b all h in
    let steps : answer_step l plan before a.answer state ≡ Some on.next = ap (λ (x : Answer). answer_step l plan before x state) (sym first) ∙ on.steps in
    let Leads : Answer → Type 0 = λ x. replay_on l plan (before ++ seen (variable_count l) x ∷ []) on.next all ≡ At final in
    let rest = front_leads l plan front all more (before ++ seen (variable_count l) a.answer ∷ []) on.next final others (subst Leads first on.rest) in
    (rest.0, replay_step l plan before state on.next a front steps ∙ rest.1)

pub fronts_have_places : FrontsHavePlaces
fronts_have_places l plan events later more (state, h) found same =
    let led = found_and_led (empty_back events) (replay_on l plan [] (Idle [] None) (recorded events)) state h in
    placed l plan later found
    (front_leads l plan (recorded later) (recorded events) more [] (Idle [] None) state (recorded_stand events ∙ same ∙ ap (λ t. t ++ more) (sym (recorded_stand later))) led.1)

-- ---- the first that has no place

-- the first stray behind some answers, which lead to a state
record StraysOn (l : Language) (plan : Plan) (before : List Answer) (state : State) (all : List Recorded) (number : ℕ) : Type 0 where
  front : List Recorded
  stray : Recorded
  more : List Recorded
  is : all ≡ front ++ stray ∷ more
  count : number ≡ stray.number
  last : State
  leads : replay_on l plan before state front ≡ At last
  none : answer_step l plan (before ++ all_seen (variable_count l) front) stray.answer last ≡ None

strays_on : (l : Language) (plan : Plan) (all : List Recorded) (before : List Answer) (state : State) (number : ℕ) → replay_on l plan before state all ≡ Stray number → StraysOn l plan before state all number
unfolding replay_on
strays_on l plan [] before state number h = absurd (let bad : At state ≡ Stray number = h in cc)
strays_on l plan (a ∷ all) before state number h =
    go (answer_step l plan before a.answer state) refl h (λ next rest. strays_on l plan all (before ++ seen (variable_count l) a.answer ∷ []) next number rest)
  where
    go : (o : Option State) → answer_step l plan before a.answer state ≡ o → lead_on a.number o (λ next. replay_on l plan (before ++ seen (variable_count l) a.answer ∷ []) next all) ≡ Stray number →
        ((next : State) → replay_on l plan (before ++ seen (variable_count l) a.answer ∷ []) next all ≡ Stray number → StraysOn l plan (before ++ seen (variable_count l) a.answer ∷ []) next all number) →
        StraysOn l plan before state (a ∷ all) number
    go None at h further = record {
      front = [];
      stray = a;
      more = all;
      is = refl;
      count = let here : Stray a.number ≡ Stray number = h in let same : a.number ≡ number = cc in sym same;
      last = state;
      leads = replay_end l plan before state;
      none = ap (λ (t : List Answer). answer_step l plan t a.answer state) (append-nil before) ∙ at;
    }
    go (Some next) at h further =
        let s = further next h in
        record {
          front = a ∷ s.front;
          stray = s.stray;
          more = s.more;
          is = ap (λ (xs : List Recorded). a ∷ xs) s.is;
          count = s.count;
          last = s.last;
          leads = replay_step l plan before state next a s.front at ∙ s.leads;
          none = ap (λ (t : List Answer). answer_step l plan t s.stray.answer s.last) (sym (append_assoc before (seen (variable_count l) a.answer ∷ []) (all_seen (variable_count l) s.front))) ∙ s.none;
        }

pub stray_is_first : StrayIsFirst
stray_is_first l plan events number h = go (empty_back events) refl h
  where
    go : (o : Option ℕ) → empty_back events ≡ o → unless_empty o (replay_on l plan [] (Idle [] None) (recorded events)) ≡ Stray number → IsEmptyBack events number ⊎ IsFirstStray l plan events number
    go (Some first) is h = let same : first ≡ number = cc in inl (empty_back_is events number (is ∙ ap (λ (n : ℕ). Some n) same))
    go None found h =
        let s = strays_on l plan (recorded events) [] (Idle [] None) number h in
        inr (record { found = found; front = s.front; stray = s.stray; more = s.more; is = s.is; count = s.count; state = s.last; leads = s.leads; none = s.none })
