-- Laws of sifting, over the definitions alone.
use Rattle.std.specs.Prelude.{ℕ, ◌≡◌, ◌⊎◌, IsTrue, List, []}
use Rattle.assign.specs.Events.{Answer}
use Rattle.language.specs.declared.candidates.Candidate.{Candidate}
use Rattle.language.specs.Language.{Language, IsLanguage, HasSameSolutions}
use Rattle.language.specs.Answers.{IsNetwork, IsConverged, agrees}
use Rattle.net_reduce.specs.Reduction.{IsReduction, Sifts}
use Rattle.net_reduce.specs.Searched.{IsReducedBySearch, IsSpentAt}

-- What sifting leaves of a network is a reduction of it.
abbrev pub SiftedIsReduction : Type 0
SiftedIsReduction = (l : Language) (network part : List Candidate) → Sifts l [] network part →
    IsReduction l network part

-- It leaves one list.
abbrev pub SiftedIsOne : Type 0
SiftedIsOne = (l : Language) (network part other : List Candidate) → Sifts l [] network part →
    Sifts l [] network other → part ≡ other

-- A reduction of a network on which answers converge has the solutions of each network that agrees
-- with them.
abbrev pub ReducedIsTarget : Type 0
ReducedIsTarget =
    (l : Language) (network part target : List Candidate) (t : List Answer) →
    IsConverged l network t → IsReduction l network part → IsNetwork l target →
    IsTrue (agrees l target t) → HasSameSolutions l part target

-- Of each network the searches are decided and something remains, or a first one is spent.
abbrev pub EachIsSearchedOrSpent : Type 0
EachIsSearchedOrSpent =
    (l : Language) (network : List Candidate) (budget : ℕ) → IsLanguage l → IsNetwork l network →
    ((part : List Candidate) × IsReducedBySearch l network budget part)
    ⊎ ((i : ℕ) × IsSpentAt l network budget i)
