-- What is heard of a teacher's word to a question: what is to be kept of it, or how the loop ends.
use Rattle.std.specs.Prelude.{◌≡◌, ◌≢◌, ◌<◌, ◌+◌}
use Rattle.acq_loop.specs.Prelude.{ℕ, List, [], true, false, Option, Some, None, IsSome, Result, Ok}
use Rattle.acq_loop.specs.Prelude.{Err, ForSome, Assignment, standing, Event, Language, Remembered}
use Rattle.acq_loop.specs.Prelude.{HasNoMarks, answer_event, SFault, AsksFirst, Tells, Turns, Told}
use Rattle.assign.specs.declared.events.Event.TheVariants as event
use Rattle.target_oracle.specs.declared.teacher.Told.TheVariants as told
use Rattle.acq_loop.specs.Due.{ended_by}
use Rattle.acq_loop.specs.declared.driving.Drove.{Drove}
use Rattle.acq_loop.specs.declared.driving.Drove.TheVariants as drove
use Rattle.acq_loop.specs.declared.driving.Entry.{Entry}
use Rattle.acq_loop.specs.declared.driving.Entry.TheVariants as entry
use Rattle.acq_loop.specs.declared.driving.Heard.{Heard}
use Rattle.acq_loop.specs.declared.driving.Heard.TheVariants as heard

-- by a teacher's word, where so many answers stand
abbrev pub heard_of : Told → ℕ → Heard
heard_of told.Yes count = heard.Keep (entry.Answer true)
heard_of told.No count = heard.Keep (entry.Answer false)
heard_of told.Back count = heard.Keep entry.Back
heard_of told.Stop count = heard.End (drove.Suspended count)
heard_of told.End count = heard.End (drove.Suspended count)
heard_of told.TooLong count = heard.End drove.LineTooLong
heard_of told.Unreadable count = heard.End drove.Unreadable
heard_of told.ReadFault count = heard.End drove.ReadFault
heard_of told.WriteFault count = heard.End drove.WriteFault
heard_of told.Memory count = heard.End drove.Memory

-- This is heard of the teacher's word to this question, after so many answers.
pub record HearsReply (turns : Turns) (may : Language → Assignment → Told → Type 0) (l : Language)
    (q : Assignment) (count : ℕ) (left written left' written' : Option (List ℕ)) (heard : Heard) :
    Type 0 where
  pub word : Told
  pub is : heard ≡ heard_of word count
  -- where the source tells
  pub tells :
      ForSome left (λ bytes. Tells (turns l (count + 1) q bytes) written left' written' word)
  pub asks : AsksFirst left written left' written' (turns l (count + 1) q []).text
  pub says : may l q word
  pub back : word ≡ told.Back → 1 < count + 1

-- the event of an entry, where this question is put; an answer is said to a question, so there is
-- one
abbrev pub event_on : Entry → Option Assignment → Event
event_on (entry.Answer reply) (Some q) = answer_event q reply
event_on (entry.Answer reply) None = event.Back
event_on entry.Back put = event.Back

-- a question is put for an answer, and an answer stands for a take-back
abbrev pub MayKeep : List Event → Option Assignment → Entry → Type 0
MayKeep events put (entry.Answer reply) = IsSome put
MayKeep events put entry.Back = standing events ≢ []

-- what searches said is forgotten where an answer is taken back
abbrev pub Forgets : Entry → Remembered → Remembered → Type 0
Forgets (entry.Answer reply) old new = new ≡ old
Forgets entry.Back old new = HasNoMarks new

-- how the loop ends where an event couldn't be kept
abbrev pub end_on_fault : Result (Unit {0}) SFault → Option Drove
end_on_fault (Ok done) = None
end_on_fault (Err fault) = Some (ended_by fault)
