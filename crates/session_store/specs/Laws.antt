-- What holds of the replay of every list of events.
use Rattle.std.specs.Prelude.{◌≡◌, ℕ, ◌+◌, ◌⊎◌, List, [], ◌∷◌, ◌++◌, All, length, map, None}
use Rattle.assign.specs.Events.{Answer, standing}
use Rattle.assign.specs.declared.events.Event.{Event}
use Rattle.assign.specs.declared.events.Event.TheVariants as variant
use Rattle.assign.specs.declared.events.Plan.{Plan}
use Rattle.language.specs.Language.{Language, variable_count}
use Rattle.language.specs.Answers.{standing_on}
use Rattle.session_laws.specs.Session.{State, Idle, At, Stray, state_after}
use Rattle.session_store.specs.Replay.{Recorded, recorded, empty_back, all_seen, answer_step}
use Rattle.session_store.specs.Replay.{replay_on, replay, HavePlaces}

-- The record of this number holds the answer.
pub record HoldsAnswer (events : List Event) (a : Recorded) : Type 0 where
  pub front : List Event
  pub more : List Event
  pub is : events ≡ front ++ variant.Answer a.answer.question a.answer.yes ∷ more
  pub count : a.number ≡ length front + 1

-- What is replayed are the answers that stand, each with the number of its record.
pub record AnswersAreRecorded (events : List Event) : Type 0 where
  pub stand : map (λ (a : Recorded). a.answer) (recorded events) ≡ standing events
  pub held : All (HoldsAnswer events) (recorded events)

abbrev pub RecordsAreAnswers : Type 0
RecordsAreAnswers = (events : List Event) → AnswersAreRecorded events

-- where events have their places, they lead to the state to which the answers that stand lead
abbrev pub ReplayIsState : Type 0
ReplayIsState = (l : Language) (plan : Plan) (events : List Event) (state : State) →
    replay l plan events ≡ At state → state_after l plan (standing_on l events) ≡ At state

-- Where events have their places, so have others after which the first of their answers stand, and
-- whose take-backs each find an answer. So they have places with a take-back more.
abbrev pub FrontsHavePlaces : Type 0
FrontsHavePlaces = (l : Language) (plan : Plan) (events later : List Event) (more : List Answer) →
    HavePlaces l plan events →
    empty_back later ≡ None → standing events ≡ standing later ++ more → HavePlaces l plan later

-- The record of this number, counted from 1, is a take-back at which no answer stands. Each one
-- before it finds an answer.
pub record IsEmptyBack (events : List Event) (number : ℕ) : Type 0 where
  pub front : List Event
  pub more : List Event
  pub is : events ≡ front ++ variant.Back ∷ more
  pub count : number ≡ length front + 1
  pub none : standing front ≡ []
  pub found : empty_back front ≡ None

-- Each take-back finds an answer. Of the answers that stand, those before this record have their
-- places, and that of this record has none where they lead.
pub record IsFirstStray (l : Language) (plan : Plan) (events : List Event) (number : ℕ) :
    Type 0 where
  pub found : empty_back events ≡ None
  pub front : List Recorded
  pub stray : Recorded
  pub more : List Recorded
  pub is : recorded events ≡ front ++ stray ∷ more
  pub count : number ≡ stray.number
  pub state : State
  pub leads : replay_on l plan [] (Idle [] None) front ≡ At state
  pub none : answer_step l plan (all_seen (variable_count l) front) stray.answer state ≡ None

-- the record that a replay names is the first take-back at which no answer stands, or else the
-- first of those that stand that has no place
abbrev pub StrayIsFirst : Type 0
StrayIsFirst = (l : Language) (plan : Plan) (events : List Event) (number : ℕ) →
    replay l plan events ≡ Stray number →
    IsEmptyBack events number ⊎ IsFirstStray l plan events number
