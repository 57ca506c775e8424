-- What a teacher has said: the events that were added, and how it ended.
use Rattle.std.specs.Prelude.{◌≡◌, ◌⊎◌, ◌++◌}
use Rattle.acq_loop.specs.Prelude.{List, All, Some, Result, Ok, Put, Assignment, Answer, Event}
use Rattle.acq_loop.specs.Prelude.{Plan, Language, IsQuestion, event_for, HavePlaces}
use Rattle.acq_loop.specs.Prelude.{told_of_answer, Told}
use Rattle.assign.specs.declared.events.Event.TheVariants as event
use Rattle.acq_loop.specs.Run.{Puts, next_after}
use Rattle.acq_loop.specs.declared.ending.Ending.{Ending}
use Rattle.target_oracle.specs.declared.teacher.Told.TheVariants as told
use Rattle.acq_loop.specs.declared.ending.Ending.TheVariants as ending
use Rattle.acq_loop.specs.declared.terms.Terms.{Terms}

-- An event that may be added: that of an answer that may be given to its question, which has empty
-- options behind its own, or a take-back that may be said to a question.
abbrev pub MayAdd : Language → (Assignment → Told → Type 0) → Event → Type 0
MayAdd l may e =
    ((a : Answer) × (e ≡ event_for a) × IsQuestion l a.question
    × may a.question (told_of_answer a.yes))
    ⊎ ((q : Assignment) × (e ≡ event.Back) × may q told.Back)

-- Events were added, each of which may be. Where those from before have their places, each has one.
pub record IsAdded (l : Language) (plan : Plan) (may : Assignment → Told →
    Type 0) (before after : List Event) : Type 0 where
  pub more : List Event
  pub is : after ≡ before ++ more
  pub each : All (MayAdd l may) more
  pub places : HavePlaces l plan before → HavePlaces l plan after

-- this question comes next after these answers, and that may be said to it
abbrev pub MaySayNext : Language → Terms → List Answer → (Assignment → Told → Type 0) → Assignment →
    Told → Type 0
MaySayNext l terms t may q told = (next_after l terms t ≡ Some (Puts q)) × may q told

-- Where it ended by what was said to a question, that may be said.
abbrev pub MayEnd : (Assignment → Told → Type 0) → Result Ending Put → Type 0
MayEnd may (Ok (ending.Suspended m)) = (q : Assignment) × (may q told.Stop ⊎ may q told.End)
MayEnd may (Ok ending.LineTooLong) = (q : Assignment) × may q told.TooLong
MayEnd may (Ok ending.Unreadable) = (q : Assignment) × may q told.Unreadable
MayEnd may (Ok ending.ReadFault) = (q : Assignment) × may q told.ReadFault
MayEnd may got = Unit {0}

-- the events that were added, and what is known of how it ended
pub record IsTaught (l : Language) (plan : Plan) (may : Assignment → Told →
    Type 0) (before after : List Event) (ended : Type 0) : Type 0 where
  pub added : IsAdded l plan may before after
  pub said : ended
