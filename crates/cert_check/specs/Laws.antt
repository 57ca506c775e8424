-- Laws over the definitions alone.
use Rattle.std.specs.Prelude.{IsTrue, List}
use Rattle.assign.specs.Events.{Answer}
use Rattle.language.specs.declared.candidates.Candidate.{Candidate}
use Rattle.language.specs.Language.{Language, IsLanguage, IsCandidate, IsImplied}
use Rattle.language.specs.Answers.{IsNetwork, IsCovered, IsConverged}
use Rattle.cert_check.specs.declared.token.Token.{Token}
use Rattle.cert_check.specs.Certificate.{Refutation}
use Rattle.cert_check.specs.Refuting.{refutes}
use Rattle.cert_check.specs.Good.{IsGood}
use Rattle.cert_check.specs.Making.{certificate_of}

-- a candidate that tokens refute is implied
abbrev pub RefutedIsImplied : Type 0
RefutedIsImplied =
    (l : Language) (network : List Candidate) (c : Candidate) (tokens : List Token) →
    IsLanguage l → IsCandidate l c → IsTrue (refutes l network c tokens) → IsImplied l network c

-- a network with a good list is covered
abbrev pub GoodIsCovered : Type 0
GoodIsCovered =
    (l : Language) (network : List Candidate) (t : List Answer) (refutations : List Refutation) →
    IsLanguage l → IsGood l network t refutations → IsCovered l network t

-- and so it is the one that the answers converge on
abbrev pub GoodIsConverged : Type 0
GoodIsConverged =
    (l : Language) (network : List Candidate) (t : List Answer) (refutations : List Refutation) →
    IsLanguage l → IsNetwork l network → IsGood l network t refutations → IsConverged l network t

-- and what is listed for a covered network makes a good certificate
abbrev pub MadeIsGood : Type 0
MadeIsGood =
    (l : Language) (network : List Candidate) (t : List Answer) →
    IsLanguage l → IsCovered l network t →
    IsGood l network t (certificate_of l network t).refutations
