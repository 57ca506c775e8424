-- Where events lead, or the number of the first record that has no place.
use Rattle.std.specs.Prelude.{◌≡◌, ℕ, ◌+◌, ◌-◌, Bool, false, ◌&&◌, nat_le, List, [], ◌∷◌, ◌++◌}
use Rattle.std.specs.Prelude.{length, map, take, drop, Option, Some, None, is_some, if◌then◌else◌}
use Rattle.std.specs.List.{list_any}
use Rattle.assign.specs.Sets.{MOST, numbers}
use Rattle.assign.specs.Assignment.{Assignment, value_of}
use Rattle.assign.specs.Events.{Answer, without_last}
use Rattle.assign.specs.declared.events.Event.{Event}
use Rattle.assign.specs.declared.events.Event.TheVariants as variant
use Rattle.assign.specs.declared.events.Plan.{Plan}
use Rattle.language.specs.Language.{Language, variable_count}
use Rattle.session_laws.specs.Session.{State, Idle, Course, At, Stray, lead_on, step, state_after}
use Rattle.session_core.specs.declared.session.Session.{Session}
use Rattle.session_core.specs.Standing.{Stands, knowledge_of, open_in}
use Rattle.session_core.specs.Settled.{IsSettled}
use Rattle.session_store.specs.declared.fault.SFault.{SFault}
use Rattle.session_store.specs.declared.fault.SFault.TheVariants as store

-- ---- the records of the answers that stand

-- An answer that stands, and the number of its record. The record of the vocabulary is record 0.
pub record Recorded : Type 0 where
  pub answer : Answer
  pub number : ℕ

-- the answers that stand with their records, where these stood before and the events are the
-- records from this number on
abbrev pub recorded_from : List Recorded → ℕ → List Event → List Recorded
recorded_from before number [] = before
recorded_from before number (variant.Answer q y ∷ more) =
    recorded_from (before
    ++ record { answer = record { question = q; yes = y }; number = number } ∷ []) (number + 1) more
recorded_from before number (variant.Back ∷ more) =
    recorded_from (take (length before - 1) before) (number + 1) more

abbrev pub recorded : List Event → List Recorded
recorded = recorded_from [] 1

-- the number of the first record that is a take-back where no answer stands, where these answers
-- stood before
abbrev pub empty_back_from : List Answer → ℕ → List Event → Option ℕ
empty_back_from before number [] = None
empty_back_from before number (variant.Answer q y ∷ more) =
    empty_back_from (before ++ record { question = q; yes = y } ∷ []) (number + 1) more
empty_back_from [] number (variant.Back ∷ more) = Some number
empty_back_from (a ∷ before) number (variant.Back ∷ more) =
    empty_back_from (without_last (a ∷ before)) (number + 1) more

abbrev pub empty_back : List Event → Option ℕ
empty_back = empty_back_from [] 1

-- ---- where they lead

-- whether a variable past the first n has a value
abbrev pub is_past : ℕ → Assignment → Bool
is_past n q = list_any (λ v. nat_le n v && is_some (value_of q v)) (numbers MOST)

-- an answer as a session of n variables sees it
abbrev pub seen : ℕ → Answer → Answer
seen n a = record { question = take n a.question; yes = a.yes }

-- One answer more: its question is the open one, or lawful where none is open, and has no value
-- past the variables.
abbrev pub answer_step : Language → Plan → List Answer → Answer → State → Option State
answer_step l plan before a state = if is_past (variable_count l) a.question then None
    else step l plan before (seen (variable_count l) a) state

unfoldable pub replay_on : Language → Plan → List Answer → State → List Recorded → Course
replay_on l plan before state [] = At state
replay_on l plan before state (a ∷ more) =
    lead_on a.number (answer_step l plan before a.answer state)
    (λ next. replay_on l plan (before ++ seen (variable_count l) a.answer ∷ []) next more)

-- a take-back at which no answer stands is told before all else
abbrev pub unless_empty : Option ℕ → Course → Course
unless_empty None reading = reading
unless_empty (Some number) reading = Stray number

-- Where the answers that stand lead, or the number of the first record that has no place. An answer
-- that was taken back isn't replayed.
abbrev pub replay : Language → Plan → List Event → Course
replay l plan events =
    unless_empty (empty_back events) (replay_on l plan [] (Idle [] None) (recorded events))

-- the answers that stand have places; so too the number of the first record whose answer has none
abbrev pub AnswersHavePlaces : Language → Plan → List Event → Type 0
AnswersHavePlaces l plan events = (state : State)
    × (replay_on l plan [] (Idle [] None) (recorded events) ≡ At state)

abbrev pub IsStrayIn : Language → Plan → List Event → ℕ → Type 0
IsStrayIn l plan events number = replay_on l plan [] (Idle [] None) (recorded events) ≡ Stray number

-- all events have places
abbrev pub HavePlaces : Language → Plan → List Event → Type 0
HavePlaces l plan events = (state : State) × (replay l plan events ≡ At state)

-- the fault names the first record that has no place; want of memory isn't told so
abbrev pub NamesStray : Language → Plan → List Event → SFault → Type 0
NamesStray l plan events (store.Stray i) = replay l plan events ≡ Stray i
NamesStray l plan events store.Memory = Unit {0}
NamesStray l plan events (store.Journal f) = ⊥
NamesStray l plan events (store.Voc f) = ⊥

-- the fault names the first take-back at which no answer stands; want of memory isn't told so
abbrev pub NamesEmptyBack : List Event → SFault → Type 0
NamesEmptyBack events (store.Stray i) = empty_back events ≡ Some i
NamesEmptyBack events store.Memory = Unit {0}
NamesEmptyBack events (store.Journal f) = ⊥
NamesEmptyBack events (store.Voc f) = ⊥

-- ---- one answer, and a session

-- the answer to a question with this reply
abbrev pub answer_to : Assignment → Bool → Answer
answer_to q reply = record { question = q; yes = reply }

-- the event of an answer
abbrev pub IsAnswer : Event → Type 0
IsAnswer (variant.Answer q reply) = Unit {0}
IsAnswer variant.Back = ⊥

-- its answer
abbrev pub answer_in : Event → Answer
answer_in (variant.Answer q reply) = answer_to q reply
answer_in variant.Back = answer_to [] false

-- The answer has a place, and the session stands behind it.
pub record IsMoved (l : Language) (plan : Plan) (t : List Answer) (a : Answer) (o : Option State)
    (next : Session) : Type 0 where
  pub state : State
  pub steps : o ≡ Some state
  pub at : state_after l plan (t ++ a ∷ []) ≡ At state
  pub stands : Stands next (t ++ a ∷ [])
  pub settled : IsSettled l plan (t ++ a ∷ []) (open_in next)

-- the session stands where these answers lead, which is this state, and has no new question
pub record IsSettledAt (session : Session) (t : List Answer) (state : State) : Type 0 where
  pub stands : Stands session t
  pub settled : IsSettled (knowledge_of session).lang (knowledge_of session).plan t
      (open_in session)
  pub at : state_after (knowledge_of session).lang (knowledge_of session).plan t ≡ At state

-- A session is moved by an answer to this question.
pub record MovesTo (session : Session) (q : Assignment) (reply : Bool) (next : Session) :
    Type 0 where
  pub lang : (knowledge_of next).lang ≡ (knowledge_of session).lang
  pub plan : (knowledge_of next).plan ≡ (knowledge_of session).plan
  pub moves : (t : List Answer) (state : State) → IsSettledAt session t state →
      IsMoved (knowledge_of session).lang (knowledge_of session).plan t (answer_to q reply) (step
      (knowledge_of session).lang (knowledge_of session).plan t (answer_to q reply) state) next

-- a session isn't
pub record StaysAt (session : Session) (q : Assignment) (reply : Bool) : Type 0 where
  pub none : (t : List Answer) (state : State) → IsSettledAt session t state → step
      (knowledge_of session).lang (knowledge_of session).plan t (answer_to q reply) state ≡ None

-- A session is moved by an answer whose question may have values past the variables.
pub record MovesBy (session : Session) (a : Answer) (next : Session) : Type 0 where
  pub lang : (knowledge_of next).lang ≡ (knowledge_of session).lang
  pub plan : (knowledge_of next).plan ≡ (knowledge_of session).plan
  pub moves : (t : List Answer) (state : State) → IsSettledAt session t state →
      IsMoved (knowledge_of session).lang (knowledge_of session).plan t
      (seen (variable_count (knowledge_of session).lang) a)
      (answer_step (knowledge_of session).lang (knowledge_of session).plan t a state) next

-- a session isn't
pub record HasNoPlace (session : Session) (a : Answer) : Type 0 where
  pub none : (t : List Answer) (state : State) → IsSettledAt session t state →
      answer_step (knowledge_of session).lang (knowledge_of session).plan t a state ≡ None

-- ---- many answers, and a session

-- the answers of records, as a session of n variables sees them
abbrev pub all_seen : ℕ → List Recorded → List Answer
all_seen n = map (λ (a : Recorded). seen n a.answer)

-- The first i of the answers have places, and the session stands behind them.
pub record IsReplayed (l : Language) (plan : Plan) (all : List Recorded) (i : ℕ)
    (session : Session) : Type 0 where
  pub lang : (knowledge_of session).lang ≡ l
  pub plan_is : (knowledge_of session).plan ≡ plan
  pub state : State
  pub at : state_after l plan (all_seen (variable_count l) (take i all)) ≡ At state
  pub on : replay_on l plan [] (Idle [] None) all
      ≡ replay_on l plan (all_seen (variable_count l) (take i all)) state (drop i all)
  pub stands : Stands session (all_seen (variable_count l) (take i all))
  pub settled : IsSettled l plan (all_seen (variable_count l) (take i all)) (open_in session)

-- ---- the records of events

-- the numbers of the records of the answers that stand, in order
abbrev pub standing_numbers : List Event → List ℕ
standing_numbers events = map (λ (a : Recorded). a.number) (recorded events)

-- These are the numbers of those that stand after the first i events.
pub record AreStandingNumbers (events : List Event) (i : ℕ) (numbers : List ℕ) : Type 0 where
  pub before : List Recorded
  pub is : numbers ≡ map (λ (a : Recorded). a.number) before
  pub stand : recorded events ≡ recorded_from before (i + 1) (drop i events)
  pub backs : empty_back events ≡ empty_back_from (map (λ (a : Recorded). a.answer) before)
      (i + 1) (drop i events)
