-- Sessions that stand where answers lead, and what follows of them.
use Rattle.acq_loop.proofs.Prelude.{same_state, Some, None, Bool, ◌≡◌, ℕ, ◌+◌, ◌≤◌, ◌<◌, ◌^◌, List, ◌∷◌, [], ◌++◌, refl, length, ap, sym, ◌∙◌, subst, arith, Assignment, Answer, Plan, Language, IsLanguage, IsQuestion, variable_count, Remembered, MarksHold, State, Course, Stray, At, state_after, network_in, Extends, one_answer_more, answers_are_at_most, Session, Knowledge, Stands, PutAfter, knowledge_of, open_in, OnlyPuts, KeepOf, ForSome, IsDue, terms_with, Terms, Event, cut_to-standing-push, standing_on, answer_event, Next, Puts, next_in, next_after, answer, Remembers}
use Rattle.session_laws.proofs.Places.{questions_have_places}
use Rattle.session_laws.proofs.Askable.{questions_have_values}
use Rattle.session_laws.proofs.Growing.{network_grows}
use Rattle.session_laws.proofs.Limits.{answers_fit}
use Rattle.session_core.specs.declared.session.Session.TheVariants as sessions
use Rattle.session_core.specs.declared.put.Put.{Put}
use Rattle.session_core.specs.declared.put.Put.TheVariants as puts
use Rattle.acq_loop.proofs.Questions.{asked_is_example, marks_stay}
use Rattle.acq_loop.proofs.Reached.{IsReached}
use Rattle.acq_loop.proofs.Running.{IsWithin, RunLaws}

pub run_laws : RunLaws
run_laws = record { places = questions_have_places; more = one_answer_more; values = questions_have_values; lawful = asked_is_example }

-- ---- the state of a session, with its network

pub record StandsIn (k : Knowledge) (t : List Answer) : Type 0 where
  pub state : State
  pub at : state_after k.lang k.plan t ≡ At state
  pub network : network_in state ≡ k.network.list

put_at : (k : Knowledge) (put : Put) (t : List Answer) → PutAfter k put t → StandsIn k t
put_at k (puts.OnWalk e set) t after = record { state = _; at = after.walking; network = refl }
put_at k (puts.Part e set run) t after = record { state = _; at = after.halving; network = refl }
put_at k (puts.Tuple run) t after = record { state = _; at = after; network = refl }
put_at k put t after = record { state = _; at = after.idle; network = refl }

pub stands_at : (session : Session) (t : List Answer) → Stands session t → StandsIn (knowledge_of session) t
stands_at (sessions.Idle idle) t h = record { state = _; at = h.after.idle; network = refl }
stands_at (sessions.Asking asking) t h = put_at asking.knowledge.value asking.put.value t h.after
stands_at (sessions.Over over) t h = record { state = _; at = h.after; network = refl }

-- the answers that a session stands for have a place
pub reached : (session : Session) (t : List Answer) → Stands session t → IsReached (knowledge_of session).lang (knowledge_of session).plan t
reached session t h = let there = stands_at session t h in (there.state, there.at)

-- there are few
pub few_answers : (l : Language) (plan : Plan) (t : List Answer) → IsLanguage l → IsReached l plan t → length t ≤ 762753
few_answers l plan t lawful (state, at) = let most = answers_are_at_most l plan t state lawful at in let fit = answers_fit l lawful in omega arith

-- what a turn relies on: the language is lawful, the answers have a place, and the count is theirs
pub record AtTurn (l : Language) (plan : Plan) (t : List Answer) (count : ℕ) (m : Language) : Type 0 where
  pub lawful : IsLanguage l
  pub reached : IsReached l plan t
  pub number : count ≡ length t
  pub language : m ≡ l

pub at_turn : (session : Session) (l m : Language) (plan : Plan) (t : List Answer) (count : ℕ) → Stands session t → (knowledge_of session).lang ≡ l → (knowledge_of session).plan ≡ plan →
    count ≡ (knowledge_of session).answers → m ≡ (knowledge_of session).lang → IsLanguage m → AtTurn l plan t count m
at_turn session l m plan t count stands lang planned counted is lawful = record {
  lawful = subst IsLanguage (is ∙ lang) lawful;
  reached = rw (lang, planned) at (reached session t stands);
  number = counted ∙ stands.knows.count;
  language = is ∙ lang;
}

-- the next question's number fits
pub next_fits : (l : Language) (plan : Plan) (m : Language) (t : List Answer) (count : ℕ) → AtTurn l plan t count m → count + 1 < 2 ^ 32
next_fits l plan m t count at = let few = few_answers l plan t at.lawful at.reached in let is = at.number in omega arith

-- this question comes next, after answers that have a place, and there is a record for what is said to it
pub record AtQuestion (l : Language) (terms : Terms) (events : List Event) (q : Assignment) : Type 0 where
  pub lawful : IsLanguage l
  pub reached : IsReached l terms.plan (standing_on l events)
  pub puts : next_after l terms (standing_on l events) ≡ Some (Puts q)
  pub fits : IsQuestion l q
  pub room : length events + 1 < 1000000

-- the question that is open in a keeper's session, where nothing but that has changed
pub record Asks {K D : Type 0} (keep : KeepOf K D) (old new : K) (budget : ℕ) (s : Session) : Type 0 where
  pub question : Assignment
  pub is_open : open_in s ≡ Some question
  pub put : keep.question new ≡ Some question
  pub language : (knowledge_of s).lang ≡ keep.lang old
  pub number : (knowledge_of s).answers ≡ length (standing_on (keep.lang old) (keep.record_of old))
  pub asked : AtQuestion (keep.lang old) (terms_with (keep.plan old) budget) (keep.record_of old) question

pub asks : {K D : Type 0} (keep : KeepOf K D) (old new : K) (budget : ℕ) (s : Session) → OnlyPuts keep old new → Stands s (standing_on (keep.lang new) (keep.record_of new)) →
    (knowledge_of s).lang ≡ keep.lang new → (knowledge_of s).plan ≡ keep.plan new → open_in s ≡ keep.question new → IsLanguage (knowledge_of s).lang → ForSome (open_in s) (IsQuestion (knowledge_of s).lang) →
    IsDue (keep.lang old) (terms_with (keep.plan old) budget) (standing_on (keep.lang old) (keep.record_of old)) (keep.question new) → length (keep.record_of new) + 1 < 1000000 → Asks keep old new budget s
asks keep old new budget s only stands lang planned opened lawful fits due room =
    let same : (knowledge_of s).lang ≡ keep.lang old = lang ∙ only.lang in
    let at = at_turn s (keep.lang old) (knowledge_of s).lang (keep.plan old) (standing_on (keep.lang old) (keep.record_of old)) (knowledge_of s).answers (rw (only.lang, only.events) at stands) same (planned ∙ only.plan) refl refl lawful in
    record {
      question = due.question;
      is_open = opened ∙ due.is;
      put = due.is;
      language = same;
      number = at.number;
      asked = record { lawful = at.lawful; reached = at.reached; puts = due.puts; fits = rw same at (fits due.question (opened ∙ due.is)); room = rw only.events at room };
    }

-- ---- what a screen remembers

-- true marks of a session's network are true of the network that the answers lead to, and the other way round
module _ (session : Session) (l : Language) (plan : Plan) (budget : ℕ) (t : List Answer) (screen : Remembered) (stands : Stands session t) (lang : (knowledge_of session).lang ≡ l) (planned : (knowledge_of session).plan ≡ plan) where
  pub marks_there : MarksHold (knowledge_of session).lang (knowledge_of session).network.list budget screen → Remembers l (terms_with plan budget) t screen
  marks_there marks state leads =
      let there = stands_at session t stands in
      let leads_there : state_after l plan t ≡ At there.state = rw (lang, planned) at there.at in
      let same : there.state ≡ state = same_state _ _ (sym leads_there ∙ leads) in
      rw (lang, ← there.network, ap network_in same) at marks

  pub marks_here : Remembers l (terms_with plan budget) t screen → MarksHold (knowledge_of session).lang (knowledge_of session).network.list budget screen
  marks_here remembers = let there = stands_at session t stands in rw (lang, ← there.network) (remembers there.state (rw (lang, planned) at there.at))

-- what holds of a language and a plan holds of the same ones
pub carried : (P : Language → Plan → Type 0) (l m : Language) (p q : Plan) → l ≡ m → p ≡ q → P l p → P m q
carried P l m p q e f h = subst (λ (x : Language). P x q) e (subst (P l) f h)

-- what comes next comes after answers that have a place
pub due_reached : (l : Language) (terms : Terms) (t : List Answer) (n : Next) → next_after l terms t ≡ Some n → IsReached l terms.plan t
due_reached l terms t n due = go (state_after l terms.plan t) refl
  where
    none_some : None ≡ Some n → ⊥
    none_some e = cc

    go : (r : Course) → state_after l terms.plan t ≡ r → IsReached l terms.plan t
    go (Stray number) at = absurd (none_some (sym (ap (next_in l terms t) at) ∙ due))
    go (At state) at = (state, at)

-- marks stay true over an answer
pub marks_after : (l : Language) (terms : Terms) (events later : List Event) (q : Assignment) (said : Bool) (screen : Remembered) → IsReached l terms.plan (standing_on l events) → length q ≡ variable_count l →
    later ≡ events ++ answer_event q said ∷ [] → Remembers l terms (standing_on l events) screen → Remembers l terms (standing_on l later) screen
marks_after l terms events later q said screen (state, at) size is remembers next then =
    let grown : standing_on l later ≡ standing_on l events ++ answer q said ∷ [] = ap (standing_on l) is ∙ cut_to-standing-push (variable_count l) events q said size in
    let on : Extends (network_in state) (network_in next) = network_grows l terms.plan (standing_on l events) (answer q said) state next at (sym (ap (state_after l terms.plan) grown) ∙ then) in
    rw on.is (marks_stay l (network_in state) on.more terms.budget screen (remembers state at))

-- the events at which a question comes
pub within : (l : Language) (terms : Terms) (events : List Event) (q : Assignment) → AtQuestion l terms events q → IsWithin l terms.plan events
within l terms events q asked = record { reached = asked.reached; few = omega (arith, asked.room) }
