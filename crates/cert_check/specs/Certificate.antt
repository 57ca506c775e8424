-- What a certificate says.
use Rattle.std.specs.Prelude.{ℕ, List}
use Rattle.assign.specs.Events.{Answer}
use Rattle.language.specs.declared.candidates.Candidate.{Candidate}
use Rattle.language.specs.Language.{Language}
use Rattle.cert_check.specs.declared.token.Token.{Token}

-- a candidate's number, and the tokens that are to refute it
pub record Refutation : Type 0 where
  pub candidate : ℕ
  pub tokens : List Token

pub record Certificate : Type 0 where
  pub language : Language
  pub answers : List Answer
  pub network : List Candidate
  pub refutations : List Refutation
