-- What `check` says of its input.
use Rattle.std.specs.Prelude.{◌≡◌, ◌↔◌}
use Rattle.acq_said.specs.Prelude.{ℕ, List, Result, Ok, Err, IfOk, Certificate, verdict, IsGood}
use Rattle.acq_said.specs.Prelude.{IsRead, IsUnreadable, cert_fault_line, confirmed_text, flaw_line}
use Rattle.acq_said.specs.Prelude.{CertFault, Verdict, Yes, No, IsConverged, Ending, MatchResult}
use Rattle.acq_said.specs.Over.{EndsAsSaid}
use Rattle.acq_said.specs.Saying.{Saying, saying}
use Rattle.acq_loop.specs.declared.ending.Ending.TheVariants as ending

-- ---- What is said

-- that a certificate is confirmed, or its flaw
abbrev pub verdict_said : Certificate → Verdict → Saying
verdict_said cert Yes = saying (confirmed_text cert) ending.Done
verdict_said cert (No flaw) = saying (flaw_line flaw) (ending.Flawed flaw)

-- what a check finds of a certificate, or why the bytes are none
abbrev pub checked_said : Result Certificate CertFault → Saying
checked_said (Ok cert) = verdict_said cert (verdict cert)
checked_said (Err fault) = saying (cert_fault_line fault) (ending.CertUnread fault)

-- a certificate is confirmed exactly where it is good, and only where its answers converge on its
-- network
pub record IsJudged (cert : Certificate) : Type 0 where
  pub good : (verdict cert ≡ Yes) ↔ IsGood cert.language cert.network cert.answers cert.refutations
  pub converged : verdict cert ≡ Yes → IsConverged cert.language cert.network cert.answers

-- the bytes are read so, as a certificate or as none for this reason, and this is said of it
pub record IsCheck (bytes : List ℕ) (what : Saying) : Type 0 where
  pub reading : Result Certificate CertFault
  pub reads : MatchResult reading (IsRead bytes) (IsUnreadable bytes)
  pub judged : IfOk reading IsJudged
  pub is : what ≡ checked_said reading

-- ---- Exactly when

-- it ends as is said of what the bytes are read as, which is judged rightly
pub record ConfirmsExactly (bytes : List ℕ) (end : Ending) : Type 0 where
  pub ends : EndsAsSaid
      (λ reading. MatchResult reading (IsRead bytes) (IsUnreadable bytes)) checked_said end
  pub judged : IfOk ends.what IsJudged
