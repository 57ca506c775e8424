-- A session without a new question is settled.
use Rattle.session_core.proofs.Prelude.{◌≡◌, ℕ, Bool, List, refl, sym, ◌∙◌, Option, Assignment, Answer, Candidate, Idle, Halving, Choosing, Walking, At, Choice, Walk, WalkEnd, Knowledge, Put, Session, Stands, LeadsTo, PutAfter, knowledge_of, open_in}
use Rattle.session_core.specs.declared.put.Put.TheVariants as puts
use Rattle.session_core.specs.declared.session.Session.TheVariants as sessions
use Rattle.session_core.specs.Settled.{IsNoneNew, HasNoNew, IsSettled}

never_idle : (k : Knowledge) (put : Put) (t : List Answer) (network : List Candidate) (end : Option WalkEnd) → IsNoneNew put → PutAfter k put t → LeadsTo k t (Idle network end) → ⊥
never_idle k (puts.Example e) t network end on after idle = on
never_idle k (puts.OnWalk e set) t network end on after idle = let no : ⊥ = apart_walking (sym idle ∙ after.walking) in no
  where
    apart_walking : {set : List ℕ} {walk : Walk} {other : List Candidate} → At (Idle network end) ≡ At (Walking set walk other) → ⊥
    apart_walking h = cc
never_idle k (puts.Part e set run) t network end on after idle = let no : ⊥ = apart_halving (sym idle ∙ after.halving) in no
  where
    apart_halving : {e : Assignment} {set : List ℕ} {replies : List Bool} {other : List Candidate} {walk : Option Walk} → At (Idle network end) ≡ At (Halving e set replies other walk) → ⊥
    apart_halving h = cc
never_idle k (puts.FirstTuple run) t network end on after idle = on
never_idle k (puts.Tuple run) t network end on after idle = let no : ⊥ = apart_choosing (sym idle ∙ after) in no
  where
    apart_choosing : {s : ℕ} {choices : List Choice} {other : List Candidate} {walk : Option Walk} → At (Idle network end) ≡ At (Choosing s choices other walk) → ⊥
    apart_choosing h = cc

pub settled : (session : Session) (t : List Answer) → HasNoNew session → Stands session t → IsSettled (knowledge_of session).lang (knowledge_of session).plan t (open_in session)
settled (sessions.Idle idle) t none stands network end at = refl
settled (sessions.Over over) t none stands network end at = refl
settled (sessions.Asking asking) t on stands network end at = absurd (never_idle asking.knowledge.value asking.put.value t network end on stands.after at)
