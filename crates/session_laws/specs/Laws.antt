-- Laws of the sessions, over the definitions alone. They hold of every list of answers, true or
-- untrue, and in every plan unless a law names one.
use Rattle.std.specs.Prelude.{ℕ, ◌*◌, ◌≤◌, ◌≡◌, ◌==◌, Bool, true, false, not, IsTrue, IsFalse, List}
use Rattle.std.specs.Prelude.{[], ◌∷◌, ◌++◌, length, filter, All, AllPairs, Any, Contains, Option}
use Rattle.std.specs.Prelude.{None, Some, is_some}
use Rattle.std.specs.List.{list_any}
use Rattle.assign.specs.Sets.{IsSet, has}
use Rattle.assign.specs.Assignment.{Assignment, restrict}
use Rattle.assign.specs.Events.{Answer}
use Rattle.assign.specs.declared.events.Plan.{Plan}
use Rattle.assign.specs.declared.events.Plan.TheVariants.{Scopes, Multi}
use Rattle.language.specs.declared.candidates.Candidate.{Candidate}
use Rattle.language.specs.Language.{Language, IsLanguage, IsQuestion, IsImplied, scope_of, violates}
use Rattle.language.specs.Language.{accepts}
use Rattle.language.specs.Answers.{IsNetwork, IsCovered, NoneAgrees, agrees, kept}
use Rattle.find_scope.specs.Halving.{Wants, Got, halve}
use Rattle.find_scope.specs.Laws.{IsTrueTo, IsMinimal}
use Rattle.session_laws.specs.Bound.{bound, most_answers}
use Rattle.session_laws.specs.Walk.{Walk, WalkEnd, Ended, violates_some}
use Rattle.session_laws.specs.Session.{State, Idle, Halving, Choosing, Walking, Over, At}
use Rattle.session_laws.specs.Session.{open_question, next_scope, scope_question, is_lawful, learn}
use Rattle.session_laws.specs.Session.{is_quiet, with_quiet_replies, halved, settle_halving, step}
use Rattle.session_laws.specs.Session.{state_after, walk_end}

-- ---- One answer, and its place

-- One answer more is one step more.
abbrev pub OneAnswerMore : Type 0
OneAnswerMore =
    (l : Language) (plan : Plan) (t : List Answer) (a : Answer) (state next : State) →
    state_after l plan t ≡ At state → step l plan t a state ≡ Some next →
    state_after l plan (t ++ a ∷ []) ≡ At next

-- Each question that may be put has a place, whatever the reply.
pub record QuestionsHavePlaces : Type 0 where
  -- the open one
  pub opened : (l : Language) (plan : Plan) (t : List Answer) (state : State) (q : Assignment)
      (reply : Bool) →
      open_question l state ≡ Some q →
      (next : State) × (step l plan t (record { question = q; yes = reply }) state ≡ Some next)
  -- a new one that is lawful, as one that the search finds
  pub put : (l : Language) (plan : Plan) (t : List Answer) (network : List Candidate)
      (end : Option WalkEnd) (q : Assignment) (reply : Bool) →
      IsTrue (is_lawful l plan (kept l t network) network q) → (next : State)
      × (step l plan t (record { question = q; yes = reply }) (Idle network end) ≡ Some next)
  -- the first of a scope
  pub scoped : (l : Language) (t : List Answer) (network : List Candidate) (end : Option WalkEnd)
      (q : Assignment) (reply : Bool) →
      scope_question l (kept l t network) network ≡ Some q → (next : State)
      × (step l Scopes t (record { question = q; yes = reply }) (Idle network end) ≡ Some next)

-- a question is open, where the state is one of those that have one
abbrev pub HasQuestion : Language → State → Type 0
HasQuestion l (Idle network end) = Unit {0}
HasQuestion l (Halving e set replies network walk) =
    IsTrue (is_some (open_question l (Halving e set replies network walk)))
HasQuestion l (Choosing s choices network walk) =
    IsTrue (is_some (open_question l (Choosing s choices network walk)))
HasQuestion l (Walking set walk network) =
    IsTrue (is_some (open_question l (Walking set walk network)))
HasQuestion l (Over network) = Unit {0}

-- No session is stuck.
abbrev pub NeverStuck : Type 0
NeverStuck =
    (l : Language) (plan : Plan) (t : List Answer) (state : State) →
    IsLanguage l → state_after l plan t ≡ At state → HasQuestion l state

-- ---- What is asked

-- whether some variable has a value
abbrev pub has_value : Assignment → Bool
has_value q = list_any is_some q

-- an assignment of the language's variables to its values that gives some variable one
pub record IsAskable (l : Language) (q : Assignment) : Type 0 where
  pub fits : IsQuestion l q
  pub some : IsTrue (has_value q)

-- Each question that is asked is one, whatever the answers were.
pub record QuestionsHaveValues : Type 0 where
  -- the open one
  pub opened : (l : Language) (plan : Plan) (t : List Answer) (state : State) (q : Assignment) →
      IsLanguage l → state_after l plan t ≡ At state → open_question l state ≡ Some q →
      IsAskable l q
  -- a new one that is lawful, as one that the search finds
  pub put : (l : Language) (plan : Plan) (t : List Answer) (network : List Candidate)
      (q : Assignment) →
      IsLanguage l → IsTrue (is_lawful l plan (kept l t network) network q) → IsAskable l q
  -- the first of a scope
  pub scoped : (l : Language) (t : List Answer) (network : List Candidate) (q : Assignment) →
      IsLanguage l → scope_question l (kept l t network) network ≡ Some q → IsAskable l q

-- ---- What an answer does, as equations for a program's loop

-- What an answer, and what a learned candidate, makes of the kept candidates.
pub record KeptSteps : Type 0 where
  pub yes : (l : Language) (t : List Answer) (network : List Candidate) (q : Assignment) →
      kept l (t ++ record { question = q; yes = true } ∷ []) network
      ≡ filter (λ c. not (violates l c q)) (kept l t network)
  pub no : (l : Language) (t : List Answer) (network : List Candidate) (q : Assignment) →
      kept l (t ++ record { question = q; yes = false } ∷ []) network ≡ kept l t network
  pub learned : (l : Language) (t : List Answer) (network : List Candidate) (s r : ℕ) →
      kept l t (learn network s (Some r)) ≡ filter (λ c. not (s == c.scope)) (kept l t network)

-- A halving whose question violates no kept candidate goes on as if that were answered yes. Another
-- one stands.
pub record SettleSteps : Type 0 where
  pub quiet : (l : Language) (t : List Answer) (e : Assignment) (set : List ℕ) (replies : List Bool)
      (network : List Candidate) (walk : Option Walk) →
      is_quiet l (kept l t network) e (halve set replies) ≡ true →
      settle_halving l t e set replies network walk
      ≡ settle_halving l t e set (replies ++ true ∷ []) network walk
  pub loud : (l : Language) (t : List Answer) (e : Assignment) (set : List ℕ) (replies : List Bool)
      (network : List Candidate) (walk : Option Walk) →
      is_quiet l (kept l t network) e (halve set replies) ≡ false →
      settle_halving l t e set replies network walk
      ≡ halved l t e set replies network walk (halve set replies)

-- After the quiet replies the halving wants a set that violates a kept candidate, or has got a set.
abbrev pub FuelIsEnough : Type 0
FuelIsEnough =
    (l : Language) (live : List Candidate) (e : Assignment) (set : List ℕ) (replies : List Bool) →
    is_quiet l live e (halve set (with_quiet_replies l live e set (2 * length set) replies)) ≡ false

-- ---- What a state says

-- the halving is open with a question that violates a kept candidate
pub record IsAsking (l : Language) (t : List Answer) (e : Assignment) (set : List ℕ)
    (replies : List Bool) (network : List Candidate) : Type 0 where
  pub wanted : List ℕ
  pub wants : halve set replies ≡ Wants wanted
  pub bites : IsTrue (violates_some l (kept l t network) (restrict e wanted))

-- A session that halves has such a question.
abbrev pub HalvingAsks : Type 0
HalvingAsks =
    (l : Language) (plan : Plan) (t : List Answer) (e : Assignment) (set : List ℕ)
    (replies : List Bool) (network : List Candidate) (walk : Option Walk) →
    IsLanguage l → state_after l plan t ≡ At (Halving e set replies network walk) →
    IsAsking l t e set replies network

-- the network is one of the language with at most one candidate a scope, and gives each answer
pub record IsInStep (l : Language) (t : List Answer) (network : List Candidate) : Type 0 where
  pub lawful : IsNetwork l network
  pub agreeing : IsTrue (agrees l network t)
  pub one_a_scope : AllPairs (λ c d. (c.scope ≡ d.scope) → ⊥) network

-- Where nothing is open, the network is in step with the answers.
abbrev pub IdleIsInStep : Type 0
IdleIsInStep =
    (l : Language) (plan : Plan) (t : List Answer) (network : List Candidate)
    (end : Option WalkEnd) →
    IsLanguage l → state_after l plan t ≡ At (Idle network end) → IsInStep l t network

-- Where nothing is open and each kept candidate is implied, the network is covered.
abbrev pub ImpliedIsCovered : Type 0
ImpliedIsCovered =
    (l : Language) (plan : Plan) (t : List Answer) (network : List Candidate)
    (end : Option WalkEnd) →
    IsLanguage l → state_after l plan t ≡ At (Idle network end) →
    All (IsImplied l network) (kept l t network) →
    IsNetwork l network × IsCovered l network t

-- In plan Scopes, where no scope is next, the network is covered.
abbrev pub ScopesAreCovered : Type 0
ScopesAreCovered =
    (l : Language) (t : List Answer) (network : List Candidate) (end : Option WalkEnd) →
    IsLanguage l → state_after l Scopes t ≡ At (Idle network end) →
    next_scope l (kept l t network) network ≡ None →
    IsNetwork l network × IsCovered l network t

-- A session is over only where no network agrees with the answers.
abbrev pub OverMeansNone : Type 0
OverMeansNone =
    (l : Language) (plan : Plan) (t : List Answer) (network : List Candidate) →
    IsLanguage l → state_after l plan t ≡ At (Over network) → NoneAgrees l t

-- In plan Scopes it never is.
abbrev pub ScopesNeverOver : Type 0
ScopesNeverOver =
    (l : Language) (t : List Answer) (network : List Candidate) →
    IsLanguage l → state_after l Scopes t ≡ At (Over network) → ⊥

-- ---- What is learned stays learned

-- the network that a state has
abbrev pub network_in : State → List Candidate
network_in (Idle network end) = network
network_in (Halving e set replies network walk) = network
network_in (Choosing s choices network walk) = network
network_in (Walking set walk network) = network
network_in (Over network) = network

-- the new list goes on where the old one ends
pub record Extends (old new : List Candidate) : Type 0 where
  pub more : List Candidate
  pub is : new ≡ old ++ more

-- After one answer more the network has what it had, and then what was learned.
abbrev pub NetworkGrows : Type 0
NetworkGrows =
    (l : Language) (plan : Plan) (t : List Answer) (a : Answer) (state next : State) →
    state_after l plan t ≡ At state → state_after l plan (t ++ a ∷ []) ≡ At next →
    Extends (network_in state) (network_in next)

-- ---- What a walk of an example leaves

-- The example violates no kept candidate, and each network that agrees, with one candidate a scope,
-- has those of its candidates that the example violates among the learned.
pub record IsWalked (l : Language) (t : List Answer) (network : List Candidate) (e : Assignment) :
    Type 0 where
  pub quiet : IsFalse (violates_some l (kept l t network) e)
  pub learned : (other : List Candidate) → IsNetwork l other →
      AllPairs (λ c d. (c.scope ≡ d.scope) → ⊥) other → IsTrue (agrees l other t) →
      All (λ c. IsTrue (violates l c e) → Contains network c) other

-- So it is where the last answer has ended the walk, and the walk wasn't cut off.
abbrev pub EndedIsWalked : Type 0
EndedIsWalked =
    (l : Language) (t : List Answer) (state : State) (e : Assignment) →
    IsLanguage l → state_after l Multi t ≡ At state → walk_end l t ≡ Some (Ended e) →
    IsWalked l t (network_in state) e

-- ---- How many answers there are

-- where nothing is open, at most as many as the bound says of the learned candidates
abbrev pub AnswersAreFew : Type 0
AnswersAreFew =
    (l : Language) (plan : Plan) (t : List Answer) (network : List Candidate)
    (end : Option WalkEnd) →
    IsLanguage l → state_after l plan t ≡ At (Idle network end) →
    length t ≤ bound l (length network)

-- at any time at most so many
abbrev pub AnswersAreAtMost : Type 0
AnswersAreAtMost =
    (l : Language) (plan : Plan) (t : List Answer) (state : State) →
    IsLanguage l → state_after l plan t ≡ At state → length t ≤ most_answers l

-- That number fits in 32 bits.
abbrev pub AnswersFit : Type 0
AnswersFit = (l : Language) → IsLanguage l → most_answers l ≤ 762753

-- Where some network agrees with the answers, at most as many candidates are learned as that
-- network has scopes.
abbrev pub LearnedAreFew : Type 0
LearnedAreFew =
    (l : Language) (plan : Plan) (t : List Answer) (network : List Candidate) (end : Option WalkEnd)
    (other : List Candidate) (scopes : List ℕ) →
    IsLanguage l → state_after l plan t ≡ At (Idle network end) →
    IsNetwork l other → IsTrue (agrees l other t) → All (λ c. IsTrue (has scopes c.scope)) other →
    length network ≤ length scopes

-- ---- A halving that one network answers

-- whether a network accepts an assignment on a set alone
abbrev pub accepts_on : Language → List Candidate → Assignment → List ℕ → Bool
accepts_on l network e set = accepts l network (restrict e set)

-- the candidate's scope is this set, and it is violated there
pub record IsViolatedOn (l : Language) (e : Assignment) (set : List ℕ) (c : Candidate) :
    Type 0 where
  pub scope : scope_of l c ≡ set
  pub violated : violates l c (restrict e set) ≡ true

-- The found set is rejected, accepted without any one of its members, and so the scope of a
-- violated candidate of the network.
pub record IsScopeFound (l : Language) (network : List Candidate) (e : Assignment)
    (found : List ℕ) : Type 0 where
  pub minimal : IsMinimal (accepts_on l network e) found
  pub by_one : Any (IsViolatedOn l e found) network

-- Where each reply is a network's and it rejects the whole, such a set is found.
abbrev pub NetworkHalves : Type 0
NetworkHalves =
    (l : Language) (network : List Candidate) (e : Assignment) (set : List ℕ) (replies : List Bool)
    (found : List ℕ) (left : List Bool) →
    IsLanguage l → IsNetwork l network → IsSet set → halve set replies ≡ Got found left →
    accepts_on l network e set ≡ false → IsTrueTo set replies (accepts_on l network e) →
    IsScopeFound l network e found
