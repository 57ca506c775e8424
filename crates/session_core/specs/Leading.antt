-- Where what a session knows is led by answers.
use Rattle.std.specs.Prelude.{ℕ, ◌≡◌, Bool, true, false, List, [], Option}
use Rattle.assign.specs.Assignment.{Assignment}
use Rattle.assign.specs.Events.{Answer}
use Rattle.language.specs.declared.candidates.Candidate.{Candidate}
use Rattle.language.specs.Language.{Language}
use Rattle.session_laws.specs.Walk.{WalkEnd}
use Rattle.session_laws.specs.Session.{State, Idle, go_on, settle_halving}
use Rattle.multi_tree.specs.Stage.{Stage, walk_in, put_again}
use Rattle.session_core.specs.declared.knowledge.Knowledge.{Knowledge}
use Rattle.session_core.specs.declared.session.Session.{Session}
use Rattle.session_core.specs.Standing.{Knows, LeadsTo, Stands}

-- the answers lead to this state, and are those that are known
pub record IsLed (k : Knowledge) (t : List Answer) (state : State) : Type 0 where
  pub at : LeadsTo k t state
  pub knows : Knows k t

-- where answers lead to the state, the session stands after them
abbrev pub StandsWhere : Knowledge → (List Answer → State) → Session → Type 0
StandsWhere k state session = (t : List Answer) → IsLed k t (state t) → Stands session t

-- where nothing is open after the answers, however a walk ended, the session stands after them
abbrev pub StandsWhereIdle : Knowledge → Session → Type 0
StandsWhereIdle k session = (end : Option WalkEnd) →
    StandsWhere k (λ t. Idle k.network.list end) session

-- what the answer about an example on a set makes of a walk, or of none
abbrev pub part_replied : Language → List Answer → Assignment → List ℕ → Bool → List Candidate →
    Stage → State
part_replied l t e set true network stage = go_on l t network (walk_in stage)
part_replied l t e set false network stage =
    settle_halving l t e set [] network (walk_in (put_again stage))

-- the set that a walk has asked about is put again, and the rest stays
pub record HasPutAgain (before after : Knowledge) : Type 0 where
  pub lang : after.lang ≡ before.lang
  pub plan : after.plan ≡ before.plan
  pub kept : after.kept ≡ before.kept
  pub network : after.network ≡ before.network
  pub count : after.answers ≡ before.answers
  pub tree : walk_in after.tree ≡ walk_in (put_again before.tree)
