-- Laws of outcomes.
use Rattle.std.specs.Prelude.{ℕ, ◌<◌, ◌≤◌, ◌≡◌, true, IsTrue, List, ◌++◌, length, Option}
use Rattle.assign.specs.Assignment.{Assignment, assigned, is_complete}
use Rattle.language.specs.declared.candidates.Candidate.{Candidate}
use Rattle.language.specs.Language.{Language, IsLanguage, IsCandidate, IsQuestion, IsImplied}
use Rattle.language.specs.Language.{variable_count, accepts, violates}
use Rattle.language.specs.Answers.{IsNetwork}
use Rattle.language.specs.Search.{order_of, is_plain, plain_size}
use Rattle.propagators.specs.Allowed.{AreConstraints, is_allowed}
use Rattle.fd_solver.specs.declared.outcome.Outcome.TheVariants.{Found, Absent, Spent}
use Rattle.fd_solver.specs.Outcomes.{IsOrder, is_alive, is_alive_in, outcome_of_candidate}

-- A candidate's scope and then the other variables have each variable once.
abbrev pub OrdersAreKnown : Type 0
OrdersAreKnown = (l : Language) (c : Candidate) → IsLanguage l → IsCandidate l c →
    IsOrder (variable_count l) (order_of l c)

-- A candidate for which a search ends with nothing is implied.
abbrev pub AbsentIsImplied : Type 0
AbsentIsImplied =
    (l : Language) (network : List Candidate) (c : Candidate) (budget : ℕ) →
    IsLanguage l → IsCandidate l c → outcome_of_candidate l network c budget ≡ Absent →
    IsImplied l network c

-- Where a search is spent, there are more plain prefixes than its budget.
abbrev pub SpentIsLong : Type 0
SpentIsLong =
    (l : Language) (network : List Candidate) (c : Candidate) (budget : ℕ) →
    IsLanguage l → IsNetwork l network → IsCandidate l c →
    outcome_of_candidate l network c budget ≡ Spent → budget < plain_size l network c

-- A longer network has no more plain prefixes.
abbrev pub PlainIsLess : Type 0
PlainIsLess = (l : Language) (network more : List Candidate) (c : Candidate) →
    plain_size l (network ++ more) c ≤ plain_size l network c

-- a complete question that the network accepts and that violates the candidate
pub record IsQuestionAgainst (l : Language) (network : List Candidate) (c : Candidate)
    (e : Assignment) : Type 0 where
  pub question : IsQuestion l e
  pub complete : IsTrue (is_complete e)
  pub accepted : IsTrue (accepts l network e)
  pub violates : IsTrue (violates l c e)

-- What a search finds is one.
abbrev pub FoundIsLawful : Type 0
FoundIsLawful =
    (l : Language) (network : List Candidate) (c : Candidate) (budget : ℕ) (e : Assignment) →
    IsLanguage l → IsNetwork l network → IsCandidate l c →
    outcome_of_candidate l network c budget ≡ Found e → IsQuestionAgainst l network c e

-- A search that ends with nothing does so too when the network has grown, under the same budget.
abbrev pub AbsentStays : Type 0
AbsentStays =
    (l : Language) (network more : List Candidate) (c : Candidate) (budget : ℕ) →
    outcome_of_candidate l network c budget ≡ Absent →
    outcome_of_candidate l (network ++ more) c budget ≡ Absent

-- What a search finds is found too when the network has grown by candidates that accept it, under
-- the same budget.
abbrev pub FoundStays : Type 0
FoundStays =
    (l : Language) (network more : List Candidate) (c : Candidate) (budget : ℕ) (e : Assignment) →
    IsLanguage l → IsNetwork l (network ++ more) → IsCandidate l c → IsTrue (accepts l more e) →
    outcome_of_candidate l network c budget ≡ Found e →
    outcome_of_candidate l (network ++ more) c budget ≡ Found e

-- An alive prefix is plain.
abbrev pub AliveIsPlain : Type 0
AliveIsPlain =
    (l : Language) (network : List Candidate) (c : Candidate) (prefix : List ℕ) →
    IsLanguage l → IsNetwork l network → IsCandidate l c → is_alive l network c prefix ≡ true →
    is_plain l network c prefix ≡ true

-- In any order, and with or without a candidate against, what an alive prefix assigns is allowed.
abbrev pub AliveIsAllowed : Type 0
AliveIsAllowed =
    (l : Language) (list : List Candidate) (against : Option Candidate) (order prefix : List ℕ) →
    IsLanguage l → AreConstraints l list against → is_alive_in l list against order prefix ≡ true →
    is_allowed l list against (assigned (variable_count l) order prefix) ≡ true

-- A prefix with a value for each variable is alive exactly where it is plain.
abbrev pub WholeIsAlive : Type 0
WholeIsAlive =
    (l : Language) (network : List Candidate) (c : Candidate) (prefix : List ℕ) →
    IsLanguage l → IsNetwork l network → IsCandidate l c → length prefix ≡ variable_count l →
    is_alive l network c prefix ≡ is_plain l network c prefix
