-- Short names for what the definitions write out.
use Rattle.acq_loop.proofs.Prelude.{◌≡◌, ◌≢◌, is_some, true, refl, None, ◌⊎◌, ◌+◌, ◌++◌, List, [], length, Bool, ℕ, ForSome, Assignment, Event, standing, answer_event, Language, standing_on, Answer, Plan, Multi, At, state_after, Turns, Terms, Closing, Ran, Point, IsPending, Loses, Drove, Option, Some, Turned, after_text, heard_on, option_map, Next, Puts, Ends}
use Rattle.std.specs.Option.{option_map_or}
use Rattle.std.specs.Prelude.{◌↔◌}
use Rattle.assign.specs.declared.events.Event.TheVariants as event
use Rattle.session_laws.specs.Laws.{IsWalked, network_in}
use Rattle.session_laws.specs.Session.{State, walk_end}
use Rattle.session_laws.specs.Walk.{Ended}
use Rattle.acq_loop.specs.Driven.{IsRunCutShort, IsWholeRun}
use Rattle.acq_loop.specs.Texts.{closing_text}
use Rattle.acq_loop.specs.declared.driving.Drove.TheVariants as drove

-- the run with this closing is what was written and left, where the source tells
abbrev pub RanTo : Turns → Language → Terms → Closing → Point → Point → Type 0
RanTo turns l terms closing old new = ForSome old.left (λ bytes. IsWholeRun turns l terms bytes closing old new)

-- a front of a run was written
abbrev pub CutOff : Turns → Language → Terms → Point → Point → Type 0
CutOff turns l terms old new = ForSome old.left (λ bytes. IsRunCutShort turns l terms bytes old new)

-- an event was lost
abbrev pub UnkeptTo : Turns → Language → Terms → Point → Point → Type 0
UnkeptTo turns l terms old new = (lost : Event) × Loses turns l terms old new lost

-- after these events a question may be answered so
abbrev pub MayFollow : List Event → Assignment → Event → Type 0
MayFollow events question e = ((reply : Bool) × (e ≡ answer_event question reply)) ⊎ ((e ≡ event.Back) × (standing events ≢ []))

-- a question is due after these events, and no record is left
abbrev pub IsFull : Language → Terms → List Event → Type 0
IsFull l terms events = IsPending l terms (standing_on l events) × (length events + 1 ≡ 1000000)

abbrev pub TellsFull : Language → Terms → List Event → Drove → Type 0
TellsFull l terms events how = (how ≡ drove.JournalFull) ↔ IsFull l terms events

-- the text of a run with its last lines
abbrev pub whole_text : Language → Terms → Ran → List ℕ
whole_text l terms run = run.text ++ closing_text l terms (standing_on l run.events) run.closing

-- how it goes on after a turn
abbrev pub turned_on : (List Event → List ℕ → Option Ran) → List Event → Assignment → Turned → Option Ran
turned_on again events q turned = option_map (after_text turned.text) (heard_on again events q turned.heard.rest turned.heard.reply)

-- a question, or else an end
abbrev pub puts_or : Closing → Option Assignment → Next
puts_or closing o = option_map_or Puts o (Ends closing)

-- where the last answer has ended the walk of an example, nothing is left to learn from the example
abbrev pub LeavesNothing : Language → Plan → List Answer → Type 0
LeavesNothing l plan t = (e : Assignment) (state : State) → plan ≡ Multi → state_after l plan t ≡ At state → walk_end l t ≡ Some (Ended e) → IsWalked l t (network_in state) e

-- where there is one, it is one
pub there_is : {A : Type 0} (o : Option A) → is_some o ≡ true → (x : A) × (o ≡ Some x)
there_is None h = absurd (let no : ⊥ = cc in no)
there_is (Some x) h = (x, refl)
