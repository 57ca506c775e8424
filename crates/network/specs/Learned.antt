-- What is learned.
use Rattle.std.specs.Prelude.{ℕ, List}
use Rattle.language.specs.declared.candidates.Candidate.{Candidate}

-- how many scopes there are, and the learned candidates in learning order
pub record Learned : Type 0 where
  pub scopes : ℕ
  pub list : List Candidate
