-- Answers to questions, and what they say of networks.
use Rattle.std.specs.Prelude.{ℕ, ◌==◌, ◌≡◌, ◌⊎◌, Bool, false, not, ◌&&◌, IsTrue, List, All, Any}
use Rattle.std.specs.Prelude.{AllPairs, filter}
use Rattle.std.specs.Bool.{beq}
use Rattle.std.specs.List.{list_any, list_all}
use Rattle.language.specs.declared.candidates.Candidate.{Candidate}
use Rattle.assign.specs.Assignment.{variables_of}
use Rattle.assign.specs.Events.{Answer, standing, cut_to}
use Rattle.assign.specs.declared.events.Event.{Event}
use Rattle.language.specs.Language.{Language, variable_count, IsCandidate, candidates, violates}
use Rattle.language.specs.Language.{accepts, scope_of, HasSameSolutions, IsImplied}

-- the answers that stand after the events, each about the language's variables alone
abbrev pub standing_on : Language → List Event → List Answer
standing_on l events = cut_to (variable_count l) (standing events)

-- the network gives each answer
abbrev pub agrees : Language → List Candidate → List Answer → Bool
agrees l network t = list_all (λ a. beq (accepts l network a.question) a.yes) t

-- a list of candidates of the language
abbrev pub IsNetwork : Language → List Candidate → Type 0
IsNetwork l network = All (IsCandidate l) network

-- The network agrees with the answers, and each network that does has its solutions.
pub record IsConverged (l : Language) (network : List Candidate) (t : List Answer) : Type 0 where
  pub lawful : IsNetwork l network
  pub agreeing : IsTrue (agrees l network t)
  pub only : (other : List Candidate) → IsNetwork l other → IsTrue (agrees l other t) →
      HasSameSolutions l other network

-- no network agrees with the answers
abbrev pub NoneAgrees : Language → List Answer → Type 0
NoneAgrees l t = (network : List Candidate) → IsNetwork l network → IsTrue (agrees l network t) → ⊥

-- some yes entry violates the candidate
abbrev pub is_struck : Language → List Answer → Candidate → Bool
is_struck l t c = list_any (λ a. a.yes && violates l c a.question) t

-- the network has a candidate on the scope of this number
abbrev pub has_scope : List Candidate → ℕ → Bool
has_scope network s = list_any (λ c. c.scope == s) network

-- the candidates that no yes entry violates and on whose scope the network has nothing
abbrev pub kept : Language → List Answer → List Candidate → List Candidate
kept l t network =
    filter (λ c. not (is_struck l t c) && not (has_scope network c.scope)) (candidates l)

-- a no entry about exactly the candidate's scope
pub record IsNoOn (l : Language) (c : Candidate) (a : Answer) : Type 0 where
  pub no : a.yes ≡ false
  pub exact : variables_of a.question ≡ scope_of l c

-- What makes a network the answer, with no word of other networks.
pub record IsCovered (l : Language) (network : List Candidate) (t : List Answer) : Type 0 where
  pub agreeing : IsTrue (agrees l network t)
  pub one_a_scope : AllPairs (λ c d. (c.scope ≡ d.scope) → ⊥) network
  -- each learned candidate has a no entry about exactly its scope
  pub begun : All (λ c. Any (IsNoOn l c) t) network
  -- each other candidate on its scope is violated by a yes entry, or accepts the tuple of such a no
  -- entry
  pub told : All (λ c. (d : Candidate) → IsCandidate l d →
      d.scope ≡ c.scope → (d.rel ≡ c.rel → ⊥) → IsTrue (is_struck l t d)
      ⊎ Any (λ a. IsNoOn l c a × (violates l d a.question ≡ false)) t) network
  -- each candidate on a scope where nothing is learned is violated by a yes entry, or is implied
  pub rest : (c : Candidate) → IsCandidate l c → has_scope network c.scope ≡ false →
      IsTrue (is_struck l t c) ⊎ IsImplied l network c
