-- A session beside its events.
use Rattle.std.specs.Prelude.{◌≡◌, ◌⊎◌, IsTrue, Bool, List, Option, Some}
use Rattle.assign.specs.Assignment.{Assignment, widened}
use Rattle.assign.specs.Events.{Answer}
use Rattle.assign.specs.declared.events.Event.{Event}
use Rattle.assign.specs.declared.events.Event.TheVariants as events
use Rattle.assign.specs.declared.events.Plan.{Plan}
use Rattle.language.specs.declared.candidates.Candidate.{Candidate}
use Rattle.language.specs.Language.{Language}
use Rattle.language.specs.Answers.{kept}
use Rattle.session_laws.specs.Session.{At, Idle, is_lawful, state_after}
use Rattle.session_laws.specs.Walk.{WalkEnd}

-- the event of an answer, whose question has empty options behind its own
abbrev pub answer_event : Assignment → Bool → Event
answer_event q reply = events.Answer (widened q) reply

abbrev pub event_for : Answer → Event
event_for a = answer_event a.question a.yes

-- an event that is added: that of an answer, or a take-back
abbrev pub IsAddable : Event → Type 0
IsAddable e = ((a : Answer) × (e ≡ event_for a)) ⊎ (e ≡ events.Back)

-- that of an answer to the question that is put, or a take-back
abbrev pub IsTried : Option Assignment → Event → Type 0
IsTried put e = ((q : Assignment) × (reply : Bool) × (put ≡ Some q) × (e ≡ answer_event q reply))
    ⊎ (e ≡ events.Back)

-- after these answers nothing is open, and the question may be put
pub record IsLawfulAfter (l : Language) (plan : Plan) (t : List Answer) (q : Assignment) :
    Type 0 where
  pub network : List Candidate
  pub end : Option WalkEnd
  pub idle : state_after l plan t ≡ At (Idle network end)
  pub lawful : IsTrue (is_lawful l plan (kept l t network) network q)
