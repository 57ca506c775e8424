-- Whether a question is put that the answers don't lead to.
use Rattle.std.specs.Prelude.{◌≡◌, List, Option, None}
use Rattle.assign.specs.Assignment.{Assignment}
use Rattle.assign.specs.Events.{Answer}
use Rattle.assign.specs.declared.events.Plan.{Plan}
use Rattle.language.specs.declared.candidates.Candidate.{Candidate}
use Rattle.language.specs.Language.{Language}
use Rattle.session_laws.specs.Session.{Idle, At, state_after}
use Rattle.session_laws.specs.Walk.{WalkEnd}
use Rattle.session_core.specs.declared.put.Put.{Put}
use Rattle.session_core.specs.declared.put.Put.TheVariants as puts
use Rattle.session_core.specs.declared.session.Session.{Session}
use Rattle.session_core.specs.declared.session.Session.TheVariants as sessions

-- where the answers lead to where nothing is open, no question is put
abbrev pub IsSettled : Language → Plan → List Answer → Option Assignment → Type 0
IsSettled l plan t put = (network : List Candidate) (end : Option WalkEnd) →
    state_after l plan t ≡ At (Idle network end) → put ≡ None

-- the question goes on with what an answer began
abbrev pub IsNoneNew : Put → Type 0
IsNoneNew (puts.Example e) = ⊥
IsNoneNew (puts.OnWalk e set) = Unit {0}
IsNoneNew (puts.Part e set run) = Unit {0}
IsNoneNew (puts.FirstTuple run) = ⊥
IsNoneNew (puts.Tuple run) = Unit {0}

-- no new question is put
abbrev pub HasNoNew : Session → Type 0
HasNoNew (sessions.Idle idle) = Unit {0}
HasNoNew (sessions.Asking asking) = IsNoneNew asking.put.value
HasNoNew (sessions.Over over) = Unit {0}
