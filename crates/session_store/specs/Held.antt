-- What a session beside its events is.
use Rattle.std.specs.Prelude.{pos, ◌≡◌, ◌<◌, All, List, [], length, Option, Some, None}
use Rattle.assign.specs.Assignment.{Assignment}
use Rattle.assign.specs.declared.events.Event.{Event}
use Rattle.assign.specs.declared.events.Event.TheVariants as events
use Rattle.assign.specs.declared.events.Plan.{Plan}
use Rattle.assign.specs.declared.events.Plan.TheVariants.{Scopes}
use Rattle.language.specs.Language.{Language}
use Rattle.language.specs.Answers.{standing_on}
use Rattle.session_core.specs.Standing.{Stands, knowledge_of, open_in}
use Rattle.session_core.specs.declared.session.Session.{Session}
use Rattle.session_store.specs.Replay.{HavePlaces}
use Rattle.session_store.specs.declared.held.Held.{Held}
use Rattle.answer_journal.specs.Format.{MOST_RECORDS}

-- the language, the plan and the question of a session that is there
abbrev pub lang_in : Option Session → Language
lang_in None = record {
  names = [];
  least_value = pos 0;
  value_count = 0;
  ranges = [];
  given = [];
  scopes = [];
  relations = [];
}
lang_in (Some session) = (knowledge_of session).lang

abbrev pub plan_in : Option Session → Plan
plan_in None = Scopes
plan_in (Some session) = (knowledge_of session).plan

abbrev pub asked_of_session : Option Session → Option Assignment
asked_of_session None = None
asked_of_session (Some session) = open_in session

-- the session is there, and stands where the events lead
abbrev pub StandsIn : Option Session → List Event → Type 0
StandsIn None events = ⊥
StandsIn (Some session) events = Stands session (standing_on (knowledge_of session).lang events)

abbrev pub lang_held : Held → Language
lang_held held = lang_in held.session

abbrev pub plan_held : Held → Plan
plan_held held = plan_in held.session

abbrev pub question_held : Held → Option Assignment
question_held held = asked_of_session held.session

abbrev pub events_held : Held → List Event
events_held held = held.events.items

-- its question has 128 options
abbrev pub IsWide : Event → Type 0
IsWide (events.Answer q reply) = length q ≡ 128
IsWide events.Back = Unit {0}

-- The session stands where the events lead. These have their places, and are no more than a journal
-- takes.
pub record IsHeld (held : Held) : Type 0 where
  pub stands : StandsIn held.session held.events.items
  pub few : length held.events.items < MOST_RECORDS
  pub wide : All IsWide held.events.items
  pub places : HavePlaces (lang_held held) (plan_held held) held.events.items
