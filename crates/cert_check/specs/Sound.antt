-- What is true of each certificate that was read, whether it is good or not.
use Rattle.std.specs.Prelude.{◌<◌, ◌^◌, length, All}
use Rattle.language.specs.Language.{IsLanguage, IsQuestion, candidates}
use Rattle.language.specs.Answers.{IsNetwork}
use Rattle.cert_check.specs.Certificate.{Certificate}

-- its answers are about the language's variables, and its items and refutations about candidates
pub record IsSound (cert : Certificate) : Type 0 where
  pub lawful : IsLanguage cert.language
  pub network : IsNetwork cert.language cert.network
  pub questions : All (λ a. IsQuestion cert.language a.question) cert.answers
  pub known : All (λ r. r.candidate < length (candidates cert.language)) cert.refutations
  pub few_answers : length cert.answers < 2 ^ 32
  pub few_items : length cert.network < 2 ^ 32
  pub few_refutations : length cert.refutations < 2 ^ 32
