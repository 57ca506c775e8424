-- Runs, one turn at a time.
use Rattle.acq_loop.proofs.Prelude.{◌≡◌, ℕ, zero, suc, ◌+◌, ◌<◌, ◌≤◌, List, [], ◌∷◌, ◌++◌, Bool, true, false, length, ap, sym, ◌∙◌, refl, Option, Some, None, arith, append_assoc, length-append, ⊎_elim, cases_lt, eq-eqb, eqb-true, append-nil, option_map, Assignment, Answer, Event, Plan, Scopes, cut_to-standing-push, Candidate, Language, IsLanguage, variable_count, kept, standing_on, Ask, AllImplied, next_query, WalkEnd, answer_event, Terms, State, Idle, Over, At, is_just, step, state_after, assignment_same, IsAskedIn, IsAskedAfter, IsTrue, false_from_ne_true, OneAnswerMore, QuestionsHavePlaces, QuestionsHaveValues, Turns, Turned, Reply, Said, TakenBack, Overlong, Unread, Closing, Suspended, LineTooLong, Unreadable, Collapsed, Converged, JournalFull, Next, Puts, Ends, searched, idle_next, next_at, next_in, next_after, is_full, unless_full, next_on, number_on, Ran, after_text, answer, ended, event_heard, heard_on, put_on, ran, Runs}
use Rattle.acq_loop.proofs.Short.{turned_on, puts_or}
use Rattle.assign.specs.declared.events.Event.TheVariants as event
use Rattle.query_gen.specs.declared.query.Query.{Query}
use Rattle.query_gen.specs.declared.query.Query.TheVariants.{Undecided}
use Rattle.acq_loop.proofs.Questions.{IsLawfulExample}
use Rattle.acq_loop.proofs.Reached.{IsReached, back_reached}

-- ---- a turn and what follows

pub text_after : (x y : List ℕ) (run : Ran) → after_text x (after_text y run) ≡ after_text (x ++ y) run
text_after x y run = ap (λ (t : List ℕ). let r : Ran = record run { text = t } in r) (sym (append_assoc x y run.text))

-- a reply that gives an event is followed by what comes after it
pub heard_event : (again : List Event → List ℕ → Option Ran) (events : List Event) (q : Assignment) (rest : List ℕ) (reply : Reply) (e : Event) → event_heard q reply ≡ Some e → heard_on again events q rest reply ≡ again (events ++ e ∷ []) rest
heard_event again events q rest (Said said) e h = let same : answer_event q said ≡ e = cc in ap (λ (x : Event). again (events ++ x ∷ []) rest) same
heard_event again events q rest TakenBack e h = let same : event.Back ≡ e = cc in ap (λ (x : Event). again (events ++ x ∷ []) rest) same
heard_event again events q rest reply e h = absurd (let no : ⊥ = cc in no)

-- a reply that ends the run so
abbrev pub EndsSo : Reply → Closing → List Event → Assignment → Type 0
EndsSo reply closing events q = (again : List Event → List ℕ → Option Ran) (rest : List ℕ) → heard_on again events q rest reply ≡ Some (ended closing events rest)

module _ (turns : Turns) (l : Language) (terms : Terms) (events : List Event) (bytes : List ℕ) where
  abbrev turn : Assignment → Turned
  turn q = turns l (number_on l events) q bytes

  -- a run of one turn more, by what comes next
  ran_on : (count : ℕ) (next : Next) → next_on l terms events ≡ Some next → ran turns l terms (suc count) events bytes ≡ put_on (λ q. turned_on (ran turns l terms count) events q (turn q)) events bytes (Some next)
  unfolding ran
  ran_on count next due = ap (put_on (λ q. turned_on (ran turns l terms count) events q (turn q)) events bytes) due

  -- a turn that heard an event
  pub runs_heard : (q : Assignment) (e : Event) (run : Ran) → next_on l terms events ≡ Some (Puts q) → event_heard q (turn q).heard.reply ≡ Some e →
      Runs turns l terms (events ++ e ∷ []) (turn q).heard.rest run → Runs turns l terms events bytes (after_text (turn q).text run)
  runs_heard q e run due heard runs = record {
    count = suc runs.count;
    is = ran_on runs.count (Puts q) due ∙ ap (option_map (after_text (turn q).text)) (heard_event (ran turns l terms runs.count) events q (turn q).heard.rest (turn q).heard.reply e heard ∙ runs.is);
  }

  -- a turn that heard a reply which ends the run
  pub runs_closed : (q : Assignment) (reply : Reply) (closing : Closing) → next_on l terms events ≡ Some (Puts q) → (turn q).heard.reply ≡ reply → EndsSo reply closing events q →
      Runs turns l terms events bytes (after_text (turn q).text (ended closing events (turn q).heard.rest))
  runs_closed q reply closing due heard closes = record {
    count = 1;
    is = ran_on 0 (Puts q) due
        ∙ ap (λ r. option_map (after_text (turn q).text) (heard_on (ran turns l terms 0) events q (turn q).heard.rest r)) heard
        ∙ ap (option_map (after_text (turn q).text)) (closes (ran turns l terms 0) (turn q).heard.rest);
  }

  -- nothing is put any more
  pub runs_end : (closing : Closing) → next_on l terms events ≡ Some (Ends closing) → Runs turns l terms events bytes (ended closing events bytes)
  runs_end closing due = record { count = 1; is = ran_on 0 (Ends closing) due }

-- ---- each run comes to an end

-- the laws that a run's end rests on
pub record RunLaws : Type 0 where
  pub places : QuestionsHavePlaces
  pub more : OneAnswerMore
  pub values : QuestionsHaveValues
  pub lawful : (l : Language) (plan : Plan) (budget : ℕ) (t : List Answer) (network : List Candidate) (end : Option WalkEnd) (q : Assignment) → IsLanguage l → state_after l plan t ≡ At (Idle network end) →
      next_query l network (kept l t network) budget ≡ Ask q → IsLawfulExample l (kept l t network) network q

puts_is : (closing : Closing) (o : Option Assignment) (q : Assignment) → puts_or closing o ≡ Puts q → o ≡ Some q
puts_is closing None q h = cc
puts_is closing (Some p) q h = cc

pub searched_is : (x : Query) (q : Assignment) → searched x ≡ Puts q → x ≡ Ask q
searched_is (Ask p) q h = cc
searched_is AllImplied q h = cc
searched_is Undecided q h = cc

-- a question that comes next: it is asked there, its answer has a place, and it has as many options as the language has variables
record IsPut (l : Language) (plan : Plan) (t : List Answer) (state : State) (q : Assignment) : Type 0 where
  asked : IsAskedIn l plan t q state
  place : (reply : Bool) → (next : State) × (step l plan t (answer q reply) state ≡ Some next)
  size : length q ≡ variable_count l

module _ (laws : RunLaws) (l : Language) (lawful : IsLanguage l) where
  idle_put : (plan : Plan) (budget : ℕ) (t : List Answer) (network : List Candidate) (end : Option WalkEnd) (q : Assignment) →
      state_after l plan t ≡ At (Idle network end) → idle_next l plan budget (kept l t network) network ≡ Puts q → IsPut l plan t (Idle network end) q
  idle_put Scopes budget t network end q at h =
      let is = puts_is Converged _ q h in
      record { asked = ap (λ o. is_just o q) is ∙ assignment_same q; place = λ reply. laws.places.scoped l t network end q reply is; size = (laws.values.scoped l t network q lawful is).fits.size }
  idle_put plan budget t network end q at h =
      let example = laws.lawful l plan budget t network end q lawful at (searched_is _ q h) in
      let may = example.lawful plan (λ e. cc) in
      record { asked = may; place = λ reply. laws.places.put l plan t network end q reply may; size = example.fits.size }

  state_put : (terms : Terms) (t : List Answer) (state : State) (q : Assignment) → state_after l terms.plan t ≡ At state → next_at l terms t state ≡ Puts q → IsPut l terms.plan t state q
  state_put terms t (Idle network end) q at h = idle_put terms.plan terms.budget t network end q at h
  state_put terms t (Over network) q at h = absurd (let no : ⊥ = cc in no)
  state_put terms t state q at h =
      let is = puts_is Collapsed _ q h in
      record { asked = is; place = λ reply. laws.places.opened l terms.plan t state q reply is; size = (laws.values.opened l terms.plan t state q lawful at is).fits.size }

  -- of answers that have a place
  put_after : (terms : Terms) (t : List Answer) (q : Assignment) (reached : IsReached l terms.plan t) → next_after l terms t ≡ Some (Puts q) → IsPut l terms.plan t reached.0 q
  put_after terms t q (state, at) due =
      let e : Some (next_at l terms t state) ≡ Some (Puts q) = sym (ap (next_in l terms t) at) ∙ due in
      state_put terms t state q at (let same : next_at l terms t state ≡ Puts q = cc in same)

  pub placed : (terms : Terms) (t : List Answer) (q : Assignment) (reply : Bool) → IsReached l terms.plan t → next_after l terms t ≡ Some (Puts q) → IsReached l terms.plan (t ++ answer q reply ∷ [])
  placed terms t q reply reached due =
      let next = (put_after terms t q reached due).place reply in (next.0, laws.more l terms.plan t (answer q reply) reached.0 next.0 reached.1 next.1)

  pub asked_after : (terms : Terms) (t : List Answer) (q : Assignment) → IsReached l terms.plan t → next_after l terms t ≡ Some (Puts q) → IsAskedAfter l terms.plan t q
  asked_after terms t q reached due = record { state = reached.0; at = reached.1; asked = (put_after terms t q reached due).asked }

  pub sized_at : (terms : Terms) (t : List Answer) (state : State) (q : Assignment) → state_after l terms.plan t ≡ At state → next_at l terms t state ≡ Puts q → length q ≡ variable_count l
  sized_at terms t state q at h = (state_put terms t state q at h).size

-- events whose answers have places, and fewer than a journal takes
pub record IsWithin (l : Language) (plan : Plan) (events : List Event) : Type 0 where
  pub reached : IsReached l plan (standing_on l events)
  pub few : length events < 1000000

-- where a question comes next, the journal isn't full
pub record PutsNext (l : Language) (terms : Terms) (events : List Event) (q : Assignment) : Type 0 where
  pub due : next_after l terms (standing_on l events) ≡ Some (Puts q)
  pub room : is_full events ≡ false

pub puts_next : (l : Language) (terms : Terms) (events : List Event) (q : Assignment) → next_on l terms events ≡ Some (Puts q) → PutsNext l terms events q
puts_next l terms events q h = go (next_after l terms (standing_on l events)) (is_full events) refl refl h
  where
    go : (o : Option Next) (full : Bool) → next_after l terms (standing_on l events) ≡ o → is_full events ≡ full → option_map (unless_full full) o ≡ Some (Puts q) → PutsNext l terms events q
    go None full next is e = absurd (let no : ⊥ = cc in no)
    go (Some (Ends closing)) full next is e = absurd (let no : ⊥ = cc in no)
    go (Some (Puts p)) true next is e = absurd (let no : ⊥ = cc in no)
    go (Some (Puts p)) false next is e = record { due = next ∙ e; room = is }

-- a question that is due is put where there is room, and else the run ends
pub next_put : (l : Language) (terms : Terms) (events : List Event) (q : Assignment) → next_after l terms (standing_on l events) ≡ Some (Puts q) → is_full events ≡ false → next_on l terms events ≡ Some (Puts q)
next_put l terms events q due room = ap (option_map (unless_full (is_full events))) due ∙ ap (λ b. Some (unless_full b (Puts q))) room

pub next_full : (l : Language) (terms : Terms) (events : List Event) (q : Assignment) → next_after l terms (standing_on l events) ≡ Some (Puts q) → length events + 1 ≡ 1000000 → next_on l terms events ≡ Some (Ends JournalFull)
next_full l terms events q due full = ap (option_map (unless_full (is_full events))) due ∙ ap (λ b. Some (unless_full b (Puts q))) (eq-eqb (length events + 1) 1000000 full)

pub next_ends : (l : Language) (terms : Terms) (events : List Event) (closing : Closing) → next_after l terms (standing_on l events) ≡ Some (Ends closing) → next_on l terms events ≡ Some (Ends closing)
next_ends l terms events closing due = ap (option_map (unless_full (is_full events))) due

-- whether there is room, by the number of events
pub room_not_full : (events : List Event) → length events + 1 < 1000000 → is_full events ≡ false
room_not_full events room = false_from_ne_true (is_full events) (λ is. let same = eqb-true (length events + 1) 1000000 is in omega (arith, same, room))

-- where a count isn't the greatest, there is room for one more
pub room_unless : (n : ℕ) (full : Bool) → n < 1000000 → (n + 1 ≡ 1000000 → IsTrue full) → full ≡ false → n + 1 < 1000000
room_unless n full few tells room = ⊎_elim (λ less. less) (λ more. absurd (let bad : true ≡ false = sym (tells (omega (arith, few, more))) ∙ room in let no : ⊥ = cc in no)) (cases_lt (n + 1) 1000000)

module _ (laws : RunLaws) (l : Language) (lawful : IsLanguage l) (terms : Terms) (events : List Event) (q : Assignment) (within : IsWithin l terms.plan events) (next : next_on l terms events ≡ Some (Puts q)) where
  few_on : (e : Event) → length (events ++ e ∷ []) < 1000000
  few_on e =
      let room = room_unless (length events) (is_full events) within.few (eq-eqb (length events + 1) 1000000) (puts_next l terms events q next).room in
      omega (arith, room, length-append events (e ∷ []))

  -- an event more: an answer leads to where it does, and a take-back to where the answers before the last do
  pub within_on : (reply : Reply) (e : Event) → event_heard q reply ≡ Some e → IsWithin l terms.plan (events ++ e ∷ [])
  within_on (Said said) e h =
      let due = (puts_next l terms events q next).due in
      let t : List Answer = standing_on l events in
      let same : answer_event q said ≡ e = cc in
      let grown = cut_to-standing-push (variable_count l) events q said (put_after laws l lawful terms t q within.reached due).size in
      rw (← same) (record { reached = rw grown (placed laws l lawful terms t q said within.reached due); few = few_on (answer_event q said) })
  within_on TakenBack e h = let same : event.Back ≡ e = cc in rw (← same) (record { reached = back_reached l terms.plan events within.reached; few = few_on event.Back })
  within_on reply e h = absurd (let no : ⊥ = cc in no)

-- ---- a run from some events

-- a run from these events and bytes, which only adds events
pub record HasRun (turns : Turns) (l : Language) (terms : Terms) (events : List Event) (bytes : List ℕ) : Type 0 where
  pub run : Ran
  pub runs : Runs turns l terms events bytes run
  pub later : List Event
  pub extends : run.events ≡ events ++ later

-- a run whose text begins with that of this question's turn
pub record HasTurn (turns : Turns) (l : Language) (terms : Terms) (events : List Event) (bytes : List ℕ) (q : Assignment) : Type 0 where
  pub has : HasRun turns l terms events bytes
  pub more : List ℕ
  pub begins : has.run.text ≡ (turns l (number_on l events) q bytes).text ++ more

module _ (turns : Turns) (l : Language) (terms : Terms) where
  -- a turn, by what was heard
  module _ (events : List Event) (bytes : List ℕ) (q : Assignment) (due : next_on l terms events ≡ Some (Puts q)) where
    turn_closed : (reply : Reply) (closing : Closing) → (turns l (number_on l events) q bytes).heard.reply ≡ reply → EndsSo reply closing events q → HasTurn turns l terms events bytes q
    turn_closed reply closing heard closes = record {
      has = record { run = _; runs = runs_closed turns l terms events bytes q reply closing due heard closes; later = []; extends = sym (append-nil events) };
      more = [];
      begins = refl;
    }

    turn_event : (reply : Reply) (e : Event) → event_heard q reply ≡ Some e → (turns l (number_on l events) q bytes).heard.reply ≡ reply → ((rest : List ℕ) → HasRun turns l terms (events ++ e ∷ []) rest) → HasTurn turns l terms events bytes q
    turn_event reply e gives heard next =
        let later = next (turns l (number_on l events) q bytes).heard.rest in
        record {
          has = record { run = _; runs = runs_heard turns l terms events bytes q e later.run due (ap (event_heard q) heard ∙ gives) later.runs; later = e ∷ later.later; extends = later.extends ∙ append_assoc events (e ∷ []) later.later };
          more = later.run.text;
          begins = refl;
        }

    turn_heard : (reply : Reply) → (turns l (number_on l events) q bytes).heard.reply ≡ reply → ((e : Event) (rest : List ℕ) → event_heard q reply ≡ Some e → HasRun turns l terms (events ++ e ∷ []) rest) → HasTurn turns l terms events bytes q
    turn_heard (Said said) heard next = turn_event (Said said) (answer_event q said) refl heard (λ rest. next (answer_event q said) rest refl)
    turn_heard TakenBack heard next = turn_event TakenBack event.Back refl heard (λ rest. next event.Back rest refl)
    turn_heard Overlong heard next = turn_closed Overlong LineTooLong heard (λ again rest. refl)
    turn_heard Unread heard next = turn_closed Unread Unreadable heard (λ again rest. refl)
    turn_heard reply heard next = turn_closed reply Suspended heard (λ again rest. refl)

  run_next : (events : List Event) (bytes : List ℕ) (next : Next) → next_on l terms events ≡ Some next → ((q : Assignment) → next_on l terms events ≡ Some (Puts q) → HasTurn turns l terms events bytes q) → HasRun turns l terms events bytes
  run_next events bytes (Puts q) due go = (go q due).has
  run_next events bytes (Ends closing) due go = record { run = _; runs = runs_end turns l terms events bytes closing due; later = []; extends = sym (append-nil events) }

module _ (laws : RunLaws) (turns : Turns) (l : Language) (terms : Terms) (lawful : IsLanguage l) where
  -- by the records that are left
  run_from : (left : ℕ) (events : List Event) (bytes : List ℕ) → IsWithin l terms.plan events → 1000000 ≤ length events + left → HasRun turns l terms events bytes
  run_from zero events bytes within above = absurd (let few = within.few in omega (arith, few, above))
  run_from (suc left) events bytes within above =
      let next : Next = unless_full (is_full events) (next_at l terms (standing_on l events) within.reached.0) in
      let is : next_on l terms events ≡ Some next = ap (λ r. option_map (unless_full (is_full events)) (next_in l terms (standing_on l events) r)) within.reached.1 in
      run_next turns l terms events bytes next is
      (λ q due. turn_heard turns l terms events bytes q due (turns l (number_on l events) q bytes).heard.reply refl
      (λ e rest heard. run_from left (events ++ e ∷ []) rest (within_on laws l lawful terms events q within due (turns l (number_on l events) q bytes).heard.reply e heard)
      (omega (arith, above, length-append events (e ∷ [])))))

  -- there is a run, whatever the bytes
  pub run_exists : (events : List Event) (bytes : List ℕ) → IsWithin l terms.plan events → HasRun turns l terms events bytes
  run_exists events bytes within = run_from 1000000 events bytes within (omega arith)

  -- where a question comes next there is one that begins with its turn
  pub turn_exists : (events : List Event) (bytes : List ℕ) (q : Assignment) → IsWithin l terms.plan events → next_on l terms events ≡ Some (Puts q) → HasTurn turns l terms events bytes q
  turn_exists events bytes q within due =
      turn_heard turns l terms events bytes q due (turns l (number_on l events) q bytes).heard.reply refl
      (λ e rest heard. run_exists (events ++ e ∷ []) rest (within_on laws l lawful terms events q within due (turns l (number_on l events) q bytes).heard.reply e heard))
