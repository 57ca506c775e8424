-- Laws of writing a certificate and reading it again, over the definitions alone.
use Rattle.std.specs.Prelude.{ℕ, ◌<◌, ◌≤◌, ◌≡◌, IsTrue, List, length, map, is_some, All, Ok}
use Rattle.std.specs.List.{list_any}
use Rattle.std.specs.List.Sorted.{IsStrictlyIncreasing}
use Rattle.assign.specs.Events.{Answer}
use Rattle.language.specs.declared.candidates.Candidate.{Candidate}
use Rattle.language.specs.Language.{Language, IsLanguage, IsQuestion}
use Rattle.language.specs.Answers.{IsNetwork, IsCovered}
use Rattle.voc_read.specs.Vocabulary.{IsVocabulary}
use Rattle.cert_check.specs.declared.token.Token.{Token}
use Rattle.cert_check.specs.declared.token.Token.TheVariants.{Branch, Holds, Item}
use Rattle.cert_check.specs.declared.verdict.Verdict.TheVariants.{Yes}
use Rattle.cert_check.specs.Certificate.{Certificate, Refutation}
use Rattle.cert_check.specs.Checking.{verdict}
use Rattle.cert_check.specs.Making.{certificate_of, certificate_made}
use Rattle.cert_check.specs.Reading.{MOST_ANSWERS, MOST_CERTIFICATE, IsRead}
use Rattle.cert_check.specs.Sound.{IsSound}
use Rattle.cert_check.specs.Written.{certificate_text}

-- a leaf names one of so many items
abbrev pub IsNodeOver : ℕ → Token → Type 0
IsNodeOver items Branch = Unit {0}
IsNodeOver items Holds = Unit {0}
IsNodeOver items (Item i) = i < items

-- each of these answers gives some variable a value
abbrev pub HaveValues : List Answer → Type 0
HaveValues t = All (λ a. IsTrue (list_any is_some a.question)) t

-- What a certificate over a vocabulary's bytes has to be, for its text to be one.
pub record IsWritable (voc : List ℕ) (cert : Certificate) : Type 0 where
  pub described : IsVocabulary voc cert.language
  pub sound : IsSound cert
  pub few : length cert.answers ≤ MOST_ANSWERS
  pub valued : HaveValues cert.answers
  pub rising : IsStrictlyIncreasing (map (λ (r : Refutation). r.candidate) cert.refutations)
  pub nodes : All (λ r. All (IsNodeOver (length cert.network)) r.tokens) cert.refutations
  pub short : length (certificate_text voc cert) ≤ MOST_CERTIFICATE

-- the text of a certificate is read as that certificate
abbrev pub WrittenIsRead : Type 0
WrittenIsRead = (voc : List ℕ) (cert : Certificate) → IsWritable voc cert →
    IsRead (certificate_text voc cert) cert

-- The bytes are read as this certificate, and a check of it says yes.
pub record IsConfirmed (bytes : List ℕ) (cert : Certificate) : Type 0 where
  pub read : IsRead bytes cert
  pub yes : verdict cert ≡ Yes

-- the text that is made for a covered network is read as the certificate that was made, which a
-- check confirms
abbrev pub MadeIsConfirmed : Type 0
MadeIsConfirmed =
    (voc : List ℕ) (l : Language) (network : List Candidate) (t : List Answer) (budget : ℕ)
    (text : List ℕ) →
    IsLanguage l → IsVocabulary voc l → IsNetwork l network → IsCovered l network t →
    All (λ a. IsQuestion l a.question) t → HaveValues t → length t ≤ MOST_ANSWERS →
    certificate_made voc l network t budget ≡ Ok text →
    IsConfirmed text (certificate_of l network t)
