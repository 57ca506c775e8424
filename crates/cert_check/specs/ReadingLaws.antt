-- Laws of reading the text of a certificate, over the definitions alone.
use Rattle.std.specs.Prelude.{ℕ, ◌≡◌, ◌⊎◌, Bool, true, false, List}
use Rattle.voc_read.specs.Want.{wants_memory as voc_wants}
use Rattle.cert_check.specs.declared.fault.CertFault.{CertFault}
use Rattle.cert_check.specs.declared.fault.CertFault.TheVariants.{Voc, Memory}
use Rattle.cert_check.specs.Certificate.{Certificate}
use Rattle.cert_check.specs.Reading.{IsRead, IsUnreadable}

-- no bytes are read and refused
abbrev pub ReadCertificateIsNotRefused : Type 0
ReadCertificateIsNotRefused = (bytes : List ℕ) (cert : Certificate) (fault : CertFault) →
    IsRead bytes cert → IsUnreadable bytes fault → ⊥

-- no bytes are read as two certificates
abbrev pub NoTwoCertificates : Type 0
NoTwoCertificates = (bytes : List ℕ) (cert other : Certificate) → IsRead bytes cert →
    IsRead bytes other → cert ≡ other

-- no bytes are refused for two faults
abbrev pub NoTwoFaults : Type 0
NoTwoFaults = (bytes : List ℕ) (fault other : CertFault) → IsUnreadable bytes fault →
    IsUnreadable bytes other → fault ≡ other

-- want of memory, its own or its vocabulary's
abbrev pub wants_memory : CertFault → Bool
wants_memory Memory = true
wants_memory (Voc fault) = voc_wants fault
wants_memory other = false

-- each list of bytes is read, or refused, and not for want of memory
abbrev pub EachCertificateIsReadOrRefused : Type 0
EachCertificateIsReadOrRefused = (bytes : List ℕ) → ((cert : Certificate) × IsRead bytes cert)
    ⊎ ((fault : CertFault) × (wants_memory fault ≡ false) × IsUnreadable bytes fault)
