-- Where a session stands, and after which answers.
use Rattle.std.specs.Prelude.{◌≡◌, Bool, IsTrue, ℕ, List, length, Option, Some, None}
use Rattle.assign.specs.Assignment.{Assignment}
use Rattle.assign.specs.Events.{Answer}
use Rattle.assign.specs.declared.events.Plan.{Plan}
use Rattle.language.specs.Language.{Language}
use Rattle.language.specs.Answers.{kept}
use Rattle.find_scope.specs.Run.{Run as ScopeRun}
use Rattle.find_scope.specs.Standing.{StandsFor}
use Rattle.find_scope.specs.declared.run.ScopeNext.TheVariants.{Wants}
use Rattle.session_laws.specs.Walk.{Walk, WalkEnd}
use Rattle.multi_tree.specs.Stage.{Asked, walk_in}
use Rattle.session_laws.specs.Session.{State, At, is_lawful, open_question, state_after}
use Rattle.session_laws.specs.Session.{Idle as IdleState, Halving as HalvingState}
use Rattle.session_laws.specs.Session.{Choosing as ChoosingState, Walking as WalkingState}
use Rattle.session_laws.specs.Session.{Over as OverState}
use Rattle.session_core.specs.declared.knowledge.Knowledge.{Knowledge}
use Rattle.session_core.specs.Putting.{question_put, run_question}
use Rattle.session_core.specs.declared.put.Put.{Put}
use Rattle.session_core.specs.declared.put.Put.TheVariants as puts
use Rattle.session_core.specs.declared.session.Session.{Session}
use Rattle.session_core.specs.declared.session.Session.TheVariants as sessions

-- what a session knows, whatever its kind
abbrev pub knowledge_of : Session → Knowledge
knowledge_of (sessions.Idle idle) = idle.knowledge.value
knowledge_of (sessions.Asking asking) = asking.knowledge.value
knowledge_of (sessions.Over over) = over.knowledge.value

-- the question that is put, if one is
abbrev pub open_in : Session → Option Assignment
open_in (sessions.Idle idle) = None
open_in (sessions.Asking asking) = Some (question_put asking.knowledge.value.lang asking.put.value)
open_in (sessions.Over over) = None

-- the answers lead to this state
abbrev pub LeadsTo : Knowledge → List Answer → State → Type 0
LeadsTo k t state = state_after k.lang k.plan t ≡ At state

-- the answers lead to where nothing is open, however a walk ended
pub record IsIdleAfter (k : Knowledge) (t : List Answer) : Type 0 where
  pub end : Option WalkEnd
  pub idle : LeadsTo k t (IdleState k.network.list end)

-- the answers lead to where nothing is open, and the question is lawful there
pub record IsNewAfter (k : Knowledge) (q : Assignment) (t : List Answer) : Type 0 where
  pub end : Option WalkEnd
  pub idle : LeadsTo k t (IdleState k.network.list end)
  pub lawful : IsTrue (is_lawful k.lang k.plan k.kept.members k.network.list q)

-- the answers lead to where the example is asked about on the set, and the walk is the session's
pub record WalksAfter (k : Knowledge) (e : Assignment) (set : List ℕ) (t : List Answer) :
    Type 0 where
  pub walk : Walk
  pub stage : k.tree ≡ Asked set walk
  pub example : walk.example ≡ e
  pub walking : LeadsTo k t (WalkingState set walk k.network.list)

-- the answers lead to a halving of the set, the run stands where its replies lead, and the walk is
-- the session's
pub record HalvesAfter (k : Knowledge) (e : Assignment) (set : List ℕ) (run : ScopeRun)
    (t : List Answer) : Type 0 where
  pub replies : List Bool
  pub halving : LeadsTo k t (HalvingState e set replies k.network.list (walk_in k.tree))
  pub running : StandsFor (Wants run) set replies

abbrev pub PutAfter : Knowledge → Put → List Answer → Type 0
PutAfter k (puts.Example e) t = IsNewAfter k e t
PutAfter k (puts.OnWalk e set) t = WalksAfter k e set t
PutAfter k (puts.Part e set run) t = HalvesAfter k e set run t
PutAfter k (puts.FirstTuple run) t = IsNewAfter k (run_question k.lang run) t
PutAfter k (puts.Tuple run) t =
    LeadsTo k t (ChoosingState run.scope run.choices k.network.list (walk_in k.tree))

-- the kind, the network, the open question and what it belongs to, the walk too, are those that the
-- answers lead to
abbrev pub IsAfter : Session → List Answer → Type 0
IsAfter (sessions.Idle idle) t = IsIdleAfter idle.knowledge.value t
IsAfter (sessions.Asking asking) t = PutAfter asking.knowledge.value asking.put.value t
IsAfter (sessions.Over over) t =
    LeadsTo over.knowledge.value t (OverState over.knowledge.value.network.list)

-- the kept candidates are those that the answers leave, and the count is theirs
pub record Knows (k : Knowledge) (t : List Answer) : Type 0 where
  pub kept : k.kept.members ≡ kept k.lang t k.network.list
  pub count : k.answers ≡ length t

-- a session stands where these answers lead
pub record Stands (session : Session) (t : List Answer) : Type 0 where
  pub after : IsAfter session t
  pub knows : Knows (knowledge_of session) t

-- ---- what a question that is put is after these answers

-- in a state the question is the open one, or may be put where none is open
abbrev pub IsAskedIn : Language → Plan → List Answer → Assignment → State → Type 0
IsAskedIn l plan t q (IdleState network end) =
    IsTrue (is_lawful l plan (kept l t network) network q)
IsAskedIn l plan t q (HalvingState e set replies network walk) =
    open_question l (HalvingState e set replies network walk) ≡ Some q
IsAskedIn l plan t q (ChoosingState s choices network walk) =
    open_question l (ChoosingState s choices network walk) ≡ Some q
IsAskedIn l plan t q (WalkingState set walk network) =
    open_question l (WalkingState set walk network) ≡ Some q
IsAskedIn l plan t q (OverState network) = ⊥

-- where the answers lead, the question is asked
pub record IsAskedAfter (l : Language) (plan : Plan) (t : List Answer) (q : Assignment) :
    Type 0 where
  pub state : State
  pub at : state_after l plan t ≡ At state
  pub asked : IsAskedIn l plan t q state
