-- What was said of a session at its end, and what was done about a language.
use Rattle.std.specs.Prelude.{◌≡◌}
use Rattle.acq_said.specs.Prelude.{ℕ, List, Option, Some, Result, Ok, Err, IsErr, IfOk, OnErr, Adds}
use Rattle.acq_said.specs.Prelude.{AddsFront, Put, Answer, Event, Language, standing_on, Turns}
use Rattle.acq_said.specs.Prelude.{closing_of, ending_of, Drives, Assignment, Multi, State, At}
use Rattle.acq_said.specs.Prelude.{Ended, IsWalked, state_after, walk_end, network_in, point_of}
use Rattle.acq_said.specs.Prelude.{closing_text, Terms, Drove, Ending, MatchOption}
use Rattle.acq_said.specs.Breaks.{BreaksRun}
use Rattle.acq_said.specs.Said.{IsSaid, silent_end}
use Rattle.acq_said.specs.Saying.{Saying, saying}
use Rattle.acq_said.specs.declared.said.Unsaid.{Unsaid}

-- the program ends as the loop did, and said so
abbrev pub Says : Language → Terms → List Answer → (written written' : Option (List ℕ)) → Drove →
    Ending → Type 0
Says l terms t written written' how end =
    (ending_of how ≡ Ok end)
    × MatchOption (closing_of how)
    (written' ≡ written) (λ closing. Adds written written' (closing_text l terms t closing))

-- a front of the last lines was written; where there are none, nothing was, and the loop had failed
abbrev pub SaysPart : Language → Terms → List Answer → (written written' : Option (List ℕ)) →
    Drove → Type 0
SaysPart l terms t written written' how =
    MatchOption (closing_of how) ((written' ≡ written) × IsErr (ending_of how))
    (λ closing. AddsFront written written' (closing_text l terms t closing))

-- the last lines of a session are said, by how it ended; where there are none, nothing is
abbrev pub SaysEnd : Language → Terms → List Answer → Drove → Result Saying Unsaid → Type 0
SaysEnd l terms t how said =
    MatchOption (closing_of how) ((why : Unsaid) × (said ≡ Err why)
    × (ending_of how ≡ silent_end why))
    (λ closing. (end : Ending) × (ending_of how ≡ Ok end)
    × IsSaid (saying (closing_text l terms t closing) end) said)

-- What was done about a language, from the events at first to those at last: the loop ended in some
-- way, and the program as that way has it. Behind what the loop wrote stand the last lines, where
-- there are any.
pub record Tries (turns : Turns) (l : Language) (terms : Terms) (start events : List Event)
    (left written left' written' : Option (List ℕ)) (end : Ending) : Type 0 where
  pub how : Drove
  pub is : ending_of how ≡ Ok end
  pub middle : Option (List ℕ)
  pub ended : Drives turns l terms (point_of start left written) (point_of events left' middle) how
  pub adds : MatchOption (closing_of how) (written' ≡ middle) (λ closing.
      Adds middle written' (closing_text l terms (standing_on l events) closing))
  -- where the last answer has ended the walk of an example, which wasn't cut off, nothing is left
  -- to learn from the example; other plans walk none
  pub walked : (e : Assignment) (state : State) → terms.plan ≡ Multi →
      state_after l terms.plan (standing_on l events) ≡ At state →
      walk_end l (standing_on l events) ≡ Some (Ended e) →
      IsWalked l (standing_on l events) (network_in state) e

-- what was done about it, said whole, or in part where something failed
pub record HasAsked (turns : Turns) (l : Language) (terms : Terms) (start events : List Event)
    (left written left' written' : Option (List ℕ)) (got : Result Ending Put) : Type 0 where
  pub tries : IfOk got (Tries turns l terms start events left written left' written')
  pub part : OnErr got (BreaksRun turns l terms start events left written left' written')
