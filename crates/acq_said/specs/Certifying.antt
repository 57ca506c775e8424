-- What `certify` says of a session.
use Rattle.std.specs.Prelude.{◌≡◌, ◌≢◌, ◌≤◌}
use Rattle.acq_said.specs.Prelude.{ℕ, All, length, Candidate, IsCovered, IsNetwork, IsQuestion}
use Rattle.acq_said.specs.Prelude.{IsVocabulary, Bool, true, false, List, Option, Some, Result, Ok}
use Rattle.acq_said.specs.Prelude.{Err, Answer, Certificate, certificate_of, certificate_made}
use Rattle.acq_said.specs.Prelude.{confirmed_text, make_fault_line, IsConfirmed, CertFault}
use Rattle.acq_said.specs.Prelude.{MakeFault, Language, standing_on, Opened, IsDone, Next}
use Rattle.acq_said.specs.Prelude.{Converged, Ends, next_after, Terms, MatchResult, IsRead}
use Rattle.acq_said.specs.Prelude.{IsUnreadable}
use Rattle.acq_said.specs.Confirming.{checked_said}
use Rattle.acq_said.specs.Reducing.{network_led_to}
use Rattle.acq_said.specs.Saying.{Saying, saying}
use Rattle.acq_loop.specs.declared.ending.Ending.TheVariants as ending

-- ---- Whether the answers have converged

-- Whether nothing is left to ask after these answers: a run would print `converged`. Where so it
-- is, they converge on what was learned.
abbrev pub TellsEnd : Language → Terms → List Answer → Bool → Type 0
TellsEnd l terms t true = IsDone l terms t
TellsEnd l terms t false = next_after l terms t ≢ Some (Ends Converged)

-- What a certificate is made of: a vocabulary's bytes, its language, a network of it, and answers
-- to its questions that the network covers.
pub record IsCertifiable (voc : List ℕ) (l : Language) (network : List Candidate)
    (answers : List Answer) : Type 0 where
  pub covered : IsCovered l network answers
  pub legal : IsNetwork l network
  pub questions : All (λ (a : Answer). IsQuestion l a.question) answers
  pub few : length answers ≤ 999999
  pub read : IsVocabulary voc l

-- ---- What is said

-- the certificate, or why none is made
abbrev pub certificate_said : Result (List ℕ) MakeFault → Saying
certificate_said (Ok text) = saying text ending.Done
certificate_said (Err fault) = saying (make_fault_line fault) (ending.CertRefused fault)

abbrev pub if_at_end : Option Next → Saying → Saying → Saying
if_at_end (Some (Ends Converged)) certificate other = certificate
if_at_end next certificate other = other

-- ---- What is true of it

-- Each text that is made is read as this certificate, which a check confirms; so what `check` reads
-- it as is that, and it says so and is done.
abbrev pub MakesGood : ℕ → Opened → Type 0
MakesGood budget o =
    let cert = certificate_of o.lang (network_led_to o) (standing_on o.lang o.events) in
    (text : List ℕ) → certificate_made o.voc o.lang (network_led_to o)
    (standing_on o.lang o.events) budget ≡ Ok text →
    IsConfirmed text cert × ((reading : Result Certificate CertFault) →
    MatchResult reading (IsRead text) (IsUnreadable text) →
    checked_said reading ≡ saying (confirmed_text cert) ending.Done)
