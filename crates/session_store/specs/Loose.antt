-- What a session in memory is.
use Rattle.std.specs.Prelude.{List, Option}
use Rattle.assign.specs.Assignment.{Assignment}
use Rattle.assign.specs.declared.events.Event.{Event}
use Rattle.assign.specs.declared.events.Plan.{Plan}
use Rattle.language.specs.Language.{Language}
use Rattle.session_store.specs.Held.{lang_held, plan_held, question_held, events_held, IsHeld}
use Rattle.session_store.specs.declared.loose.Loose.{Loose}

abbrev pub lang_of : Loose → Language
lang_of loose = lang_held loose.held

abbrev pub plan_of : Loose → Plan
plan_of loose = plan_held loose.held

abbrev pub question_of : Loose → Option Assignment
question_of loose = question_held loose.held

abbrev pub events_of : Loose → List Event
events_of loose = events_held loose.held

abbrev pub IsSound : Loose → Type 0
IsSound loose = IsHeld loose.held
