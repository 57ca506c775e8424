-- What an assignment tells of constraints: candidates that hold, and perhaps one that doesn't.
use Rattle.std.specs.Prelude.{Bool, false, not, ◌&&◌, List, Option}
use Rattle.std.specs.Option.{option_map_or, ForSome}
use Rattle.assign.specs.Assignment.{Assignment}
use Rattle.language.specs.declared.candidates.Candidate.{Candidate}
use Rattle.language.specs.Language.{Language, IsCandidate, accepts}
use Rattle.language.specs.Answers.{IsNetwork}
use Rattle.language.specs.Search.{satisfies}

-- candidates of the language
pub record AreConstraints (l : Language) (holding : List Candidate) (failing : Option Candidate) :
    Type 0 where
  pub list : IsNetwork l holding
  pub against : ForSome failing (IsCandidate l)

-- whether e covers the scope of the one candidate, if there is one, and satisfies it
abbrev pub satisfies_one : Language → Option Candidate → Assignment → Bool
satisfies_one l against e = option_map_or (λ c. satisfies l c e) against false

-- e violates nothing of the list and doesn't satisfy the one against it
abbrev pub is_allowed : Language → List Candidate → Option Candidate → Assignment → Bool
is_allowed l list against e = accepts l list e && not (satisfies_one l against e)
