-- Each list of bytes is read as a certificate, or is refused.
use Rattle.cert_check.proofs.Prelude.{◌≡◌, ℕ, ◌<◌, ◌≤◌, false, List, length, Some, Result, Ok, Err, refl, sym, ◌∙◌, subst, ◌⊎◌, inl, inr, cases_lt, none-some, same_Some, Language, VocFault, IsVocabulary, refusal_of_vocabulary, not_refused, CertFault, TooLong, BadLine, Voc, Memory, Certificate, Unread, MOST_CERTIFICATE, vocabulary_in, certificate_in, IsRead, IsUnreadable, wants_memory, EachCertificateIsReadOrRefused}
use Rattle.voc_read.specs.Want.{wants_memory as voc_wants}
use Rattle.voc_read.proofs.EachText.{each_text as each_vocabulary}
use Rattle.cert_check.proofs.Faults.{unread_before, unread_behind, read_behind}

-- the vocabulary is told apart too
abbrev IsVocabularyTold : List ℕ → Type 0
IsVocabularyTold voc = ((l : Language) × IsVocabulary voc l) ⊎ ((fault : VocFault) × (voc_wants fault ≡ false) × (refusal_of_vocabulary voc ≡ Some fault))

-- so it isn't refused for want of memory
real_voc : (voc : List ℕ) (fault : VocFault) → IsVocabularyTold voc → refusal_of_vocabulary voc ≡ Some fault → voc_wants fault ≡ false
real_voc voc fault (inl read) refused = absurd (none-some fault (sym (not_refused voc read.0 read.1) ∙ refused))
real_voc voc fault (inr told) refused = subst (λ (f : VocFault). voc_wants f ≡ false) (same_Some told.0 fault (sym told.2 ∙ refused)) told.1

real : (bytes : List ℕ) (fault : CertFault) → IsUnreadable bytes fault → wants_memory fault ≡ false
real bytes TooLong is = refl
real bytes (BadLine i) is = refl
real bytes (Voc fault) is = real_voc is.1.voc fault (each_vocabulary is.1.voc) is.1.refused
real bytes Memory is = absurd is

-- ---- One reading after the other

abbrev IsTold : List ℕ → Type 0
IsTold bytes = ((cert : Certificate) × IsRead bytes cert) ⊎ ((fault : CertFault) × (wants_memory fault ≡ false) × IsUnreadable bytes fault)

refused : (bytes : List ℕ) (fault : CertFault) → IsUnreadable bytes fault → IsTold bytes
refused bytes fault is = inr (fault, real bytes fault is, is)

module _ (bytes : List ℕ) (short : length bytes ≤ MOST_CERTIFICATE) where
  lines_told : (voc : List ℕ) (behind : Unread) (l : Language) → vocabulary_in bytes ≡ Ok (voc, behind) → IsVocabulary voc l → (answer : Result Certificate CertFault) → certificate_in l behind ≡ answer → IsTold bytes
  lines_told voc behind l begun described (Ok cert) is = inl (cert, read_behind bytes voc behind l cert short begun described is)
  lines_told voc behind l begun described (Err fault) is = refused bytes fault (unread_behind bytes voc behind l fault short begun described is)

  behind_told : (voc : List ℕ) (behind : Unread) → vocabulary_in bytes ≡ Ok (voc, behind) → IsVocabularyTold voc → IsTold bytes
  behind_told voc behind begun (inl read) = lines_told voc behind read.0 begun read.1 (certificate_in read.0 behind) refl
  behind_told voc behind begun (inr told) = refused bytes (Voc told.0) (short, record { voc = voc; behind = behind; begun = begun; refused = told.2 })

  short_told : (answer : Result (List ℕ × Unread) CertFault) → vocabulary_in bytes ≡ answer → IsTold bytes
  short_told (Ok begun) is = behind_told begun.0 begun.1 is (each_vocabulary begun.0)
  short_told (Err fault) is = refused bytes fault (unread_before bytes fault short is)

by_length : (bytes : List ℕ) → (MOST_CERTIFICATE < length bytes) ⊎ (length bytes ≤ MOST_CERTIFICATE) → IsTold bytes
by_length bytes (inl long) = refused bytes TooLong long
by_length bytes (inr short) = short_told bytes short (vocabulary_in bytes) refl

pub each_text : EachCertificateIsReadOrRefused
each_text bytes = by_length bytes (cases_lt MOST_CERTIFICATE (length bytes))
