-- What a session has learned, and what is said of it.
use Rattle.acq_said.proofs.Prelude.{◌≡◌, ◌∙◌, refl, sym, ap, subst, List, Result, Ok, Err, IfOk, Candidate, Language, standing_on, Stands, knowledge_of, Session, learned_in, stands_at, state_after, Opened, opened_as, network_led_to, AsksTruly, asked_said, IsSaid, or_silent, Ask, Saying}
use Rattle.session_store.specs.declared.keep.Keep.{Ghosts as KeepOf}
use Rattle.acq_said.specs.Asks.{SaysAsked}
use Rattle.acq_said.specs.Reducing.{HasLearned}

-- the session of a keeper
abbrev pub of_keeper : {K D : Type 0} → KeepOf K D → K → Opened
of_keeper P keep = opened_as (P.plan keep) (P.voc keep) (P.record_of keep) (P.lang keep)

-- it has learned that to which its answers lead
pub learned_as : (o : Opened) (session : Session) → (knowledge_of session).lang ≡ o.lang → (knowledge_of session).plan ≡ o.plan → Stands session (standing_on o.lang o.events) → (knowledge_of session).network.list ≡ network_led_to o
learned_as o session lang planned stands =
    let there = stands_at session (standing_on o.lang o.events) stands in
    sym (ap learned_in (sym (λ i. state_after (lang i) (planned i) (standing_on o.lang o.events)) ∙ there.at) ∙ there.network)

-- what is true of its language and the network
pub moved : {o : Opened} {l : Language} {network : List Candidate} → HasLearned o l network → (P : Language → List Candidate → Type 0) → P l network → P o.lang (network_led_to o)
moved {o} {l} {network} has P holds = subst (P o.lang) has.same (subst (λ (x : Language). P x network) has.lang holds)

-- ---- what is said to what is asked

pub says_asked : {E : Type 0} (a : Ask) (o : Opened) (r : Result Saying E) (what : Saying) → what ≡ asked_said a o → AsksTruly a o → IfOk r (λ said. said ≡ what) → IfOk r (SaysAsked a o)
says_asked a o (Ok said) what same so is = record { is = is ∙ same; so = so }
says_asked a o (Err e) what same so is = tt

-- where there was memory for it
pub said_asked : {E : Type 0} (a : Ask) (o : Opened) (r : Result Saying E) → IfOk r (SaysAsked a o) → IsSaid (asked_said a o) (or_silent r) × IfOk (or_silent r) (λ _. AsksTruly a o)
said_asked a o (Ok said) asked = (asked.is, asked.so)
said_asked a o (Err e) asked = (refl, tt)
