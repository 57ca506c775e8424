-- What a session tells of the state to which its answers lead.
use Rattle.session_core.proofs.Prelude.{◌≡◌, List, refl, sym, ◌∙◌, ap, subst, Some, Assignment, Answer, Multi, IsLanguage, Ended, State, Idle, Halving, Choosing, Walking, Over, state_after, walk_end, IsWalked, network_in, walk_in, Knowledge, Put, Example, OnWalk, Part, FirstTuple, Tuple, Session, knowledge_of, LeadsTo, PutAfter, Stands}
use Rattle.session_laws.proofs.Pending.{ended_is_walked}
use Rattle.session_core.specs.declared.session.Session.TheVariants as sessions

-- the answers lead to a state, and its network is what was learned
pub record IsReached (k : Knowledge) (t : List Answer) : Type 0 where
  pub state : State
  pub at : LeadsTo k t state
  pub learned : network_in state ≡ k.network.list

put_reached : (k : Knowledge) (put : Put) (t : List Answer) → PutAfter k put t → IsReached k t
put_reached k (Example e) t h = record { state = Idle k.network.list h.end; at = h.idle; learned = refl }
put_reached k (OnWalk e set) t h = record { state = Walking set h.walk k.network.list; at = h.walking; learned = refl }
put_reached k (Part e set run) t h = record { state = Halving e set h.replies k.network.list (walk_in k.tree); at = h.halving; learned = refl }
put_reached k (FirstTuple run) t h = record { state = Idle k.network.list h.end; at = h.idle; learned = refl }
put_reached k (Tuple run) t h = record { state = Choosing run.scope run.choices k.network.list (walk_in k.tree); at = h; learned = refl }

pub reached : (session : Session) (t : List Answer) → Stands session t → IsReached (knowledge_of session) t
reached (sessions.Idle idle) t h = record { state = Idle idle.knowledge.value.network.list h.after.end; at = h.after.idle; learned = refl }
reached (sessions.Asking asking) t h = put_reached asking.knowledge.value asking.put.value t h.after
reached (sessions.Over over) t h = record { state = Over over.knowledge.value.network.list; at = h.after; learned = refl }

-- where the last answer has ended the walk of an example, nothing is left to learn from it
pub walk_left : (session : Session) (t : List Answer) (e : Assignment) → IsLanguage (knowledge_of session).lang → Stands session t → (knowledge_of session).plan ≡ Multi →
    walk_end (knowledge_of session).lang t ≡ Some (Ended e) → IsWalked (knowledge_of session).lang t (knowledge_of session).network.list e
walk_left session t e lawful stands multi ended =
    let k : Knowledge = knowledge_of session in
    let there = reached session t stands in
    subst (λ network. IsWalked k.lang t network e) there.learned
    (ended_is_walked k.lang t there.state e lawful (ap (λ plan. state_after k.lang plan t) (sym multi) ∙ there.at) ended)
