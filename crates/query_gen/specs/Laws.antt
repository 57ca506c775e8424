-- Laws of the next question, and of what a screen remembers.
use Rattle.std.specs.Prelude.{ℕ, ◌≡◌, ◌≢◌, ◌<◌, ◌≤◌, Bool, List, ◌++◌, length, filter, All, Any}
use Rattle.assign.specs.Assignment.{Assignment}
use Rattle.language.specs.declared.candidates.Candidate.{Candidate}
use Rattle.language.specs.Language.{Language, IsLanguage, IsImplied, candidates}
use Rattle.language.specs.Answers.{IsNetwork}
use Rattle.language.specs.Search.{plain_size}
use Rattle.fd_solver.specs.declared.outcome.Outcome.TheVariants.{Spent}
use Rattle.fd_solver.specs.Outcomes.{outcome_of_candidate}
use Rattle.fd_solver.specs.Laws.{IsQuestionAgainst}
use Rattle.query_gen.specs.declared.query.Query.TheVariants.{Ask, AllImplied, Undecided}
use Rattle.query_gen.specs.Questions.{in_order, next_query}
use Rattle.query_gen.specs.Marks.{Remembered, HasNoMarks, MarksHold}
use Rattle.query_gen.specs.Parts.{query_in, query_then}

-- Candidates that a test picks from all of them stand in candidate order.
abbrev pub PickedAreInOrder : Type 0
PickedAreInOrder = (l : Language) (test : Candidate → Bool) →
    in_order l (filter test (candidates l)) ≡ filter test (candidates l)

-- Where no search finds a question and none is spent, each kept candidate is implied.
abbrev pub AllAreImplied : Type 0
AllAreImplied =
    (l : Language) (network kept : List Candidate) (budget : ℕ) →
    IsLanguage l → IsNetwork l kept → next_query l network kept budget ≡ AllImplied →
    All (IsImplied l network) kept

-- A question that is asked is complete, the network accepts it, and it violates a kept candidate.
abbrev pub AskedIsLawful : Type 0
AskedIsLawful =
    (l : Language) (network kept : List Candidate) (budget : ℕ) (e : Assignment) →
    IsLanguage l → IsNetwork l network → IsNetwork l kept →
    next_query l network kept budget ≡ Ask e → Any (λ c. IsQuestionAgainst l network c e) kept

-- Some search is spent. Each candidate on which one is has more plain prefixes than the budget, and
-- each other is implied.
pub record IsUndecided (l : Language) (network kept : List Candidate) (budget : ℕ) : Type 0 where
  pub some : Any (λ c. outcome_of_candidate l network c budget ≡ Spent) kept
  pub each : All (λ c. outcome_of_candidate l network c budget ≡ Spent →
      budget < plain_size l network c) kept
  pub rest : All (λ c. outcome_of_candidate l network c budget ≢ Spent → IsImplied l network c) kept

abbrev pub UndecidedIsSpent : Type 0
UndecidedIsSpent =
    (l : Language) (network kept : List Candidate) (budget : ℕ) →
    IsLanguage l → IsNetwork l network → IsNetwork l kept →
    next_query l network kept budget ≡ Undecided → IsUndecided l network kept budget

-- No marks are true ones.
abbrev pub NoMarksHold : Type 0
NoMarksHold = (l : Language) (network : List Candidate) (budget : ℕ) (s : Remembered) →
    HasNoMarks s → MarksHold l network budget s

-- True marks stay true while the network grows.
abbrev pub MarksStay : Type 0
MarksStay =
    (l : Language) (network more : List Candidate) (budget : ℕ) (s : Remembered) →
    MarksHold l network budget s → MarksHold l (network ++ more) budget s

-- What the candidates of two parts say is what those of the first say, and then those of the
-- second.
abbrev pub PartsAreJoined : Type 0
PartsAreJoined =
    (l : Language) (network kept : List Candidate) (budget first middle end : ℕ) → first ≤ middle →
    middle ≤ end →
    query_in l network kept budget first end ≡ query_then
    (query_in l network kept budget first middle) (query_in l network kept budget middle end)

-- What all candidates say is the next question.
abbrev pub WholeIsNext : Type 0
WholeIsNext =
    (l : Language) (network kept : List Candidate) (budget : ℕ) →
    query_in l network kept budget 0 (length (candidates l)) ≡ next_query l network kept budget
