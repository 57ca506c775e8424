-- Bytes are read as one certificate, or refused for one fault.
use Rattle.cert_check.proofs.Prelude.{◌≡◌, ℕ, ◌<◌, ◌≤◌, List, length, Some, Result, Ok, Err, refl, sym, ap, ◌∙◌, subst, arith, ◌⊎◌, inl, inr, none-some, same_Some, Language, VocFault, IsVocabulary, refusal_of_vocabulary, not_refused, CertFault, TooLong, BadLine, Voc, Memory, Certificate, Unread, MOST_CERTIFICATE, vocabulary_in, certificate_in, IsVocRefused, IsBadBehind, ReadCertificateIsNotRefused, NoTwoCertificates, NoTwoFaults}
use Rattle.voc_read.proofs.OneReading.{one_language}

abbrev done : {A : Type 0} → A → Result A CertFault
done x = Ok x

abbrev failed : {A : Type 0} → CertFault → Result A CertFault
failed fault = Err fault

same_ok : {A : Type 0} (x y : A) → done x ≡ done y → x ≡ y
same_ok x y e = cc

same_err : {A : Type 0} (fault other : CertFault) → ◌≡◌ {A = Result A CertFault} (Err fault) (Err other) → fault ≡ other
same_err fault other e = cc

ok_err : {A : Type 0} (x : A) (fault : CertFault) → done x ≡ failed fault → ⊥
ok_err x fault e = absurd cc

too_long : (bytes : List ℕ) → length bytes ≤ MOST_CERTIFICATE → MOST_CERTIFICATE < length bytes → ⊥
too_long bytes short long = omega (arith, short, long)

same_voc : (bytes voc other : List ℕ) (behind further : Unread) → vocabulary_in bytes ≡ Ok (voc, behind) → vocabulary_in bytes ≡ Ok (other, further) → voc ≡ other
same_voc bytes voc other behind further begun again = ap (λ (p : List ℕ × Unread). p.0) (same_ok (voc, behind) (other, further) (sym begun ∙ again))

same_behind : (bytes voc other : List ℕ) (behind further : Unread) → vocabulary_in bytes ≡ Ok (voc, behind) → vocabulary_in bytes ≡ Ok (other, further) → behind ≡ further
same_behind bytes voc other behind further begun again = ap (λ (p : List ℕ × Unread). p.1) (same_ok (voc, behind) (other, further) (sym begun ∙ again))

-- the lines behind the vocabulary say one thing
same_told : (bytes voc other : List ℕ) (behind further : Unread) (l k : Language) → vocabulary_in bytes ≡ Ok (voc, behind) → vocabulary_in bytes ≡ Ok (other, further) → IsVocabulary voc l → IsVocabulary other k → certificate_in l behind ≡ certificate_in k further
same_told bytes voc other behind further l k begun again described redescribed =
    let lang : l ≡ k = one_language other l k (subst (λ v. IsVocabulary v l) (same_voc bytes voc other behind further begun again) described) redescribed in
    let lines : behind ≡ further = same_behind bytes voc other behind further begun again in
    (λ i. certificate_in (lang i) (lines i))

-- a vocabulary that describes a language isn't refused
voc_taken : (bytes voc other : List ℕ) (behind further : Unread) (l : Language) (fault : VocFault) → vocabulary_in bytes ≡ Ok (voc, behind) → vocabulary_in bytes ≡ Ok (other, further) → IsVocabulary voc l → refusal_of_vocabulary other ≡ Some fault → ⊥
voc_taken bytes voc other behind further l fault begun again described refused =
    none-some fault (sym (not_refused voc l described) ∙ ap refusal_of_vocabulary (same_voc bytes voc other behind further begun again) ∙ refused)

pub not_both : ReadCertificateIsNotRefused
not_both bytes cert TooLong r u = too_long bytes r.short u
not_both bytes cert (BadLine i) r u = go u.1
  where
    go : (vocabulary_in bytes ≡ Err (BadLine i)) ⊎ IsBadBehind bytes i → ⊥
    go (inl h) = ok_err (r.voc, r.behind) (BadLine i) (sym r.begun ∙ h)
    go (inr b) = ok_err cert (BadLine i) (sym r.told ∙ same_told bytes r.voc b.voc r.behind b.behind cert.language b.language r.begun b.begun r.described b.described ∙ b.told)
not_both bytes cert (Voc fault) r u = voc_taken bytes r.voc u.1.voc r.behind u.1.behind cert.language fault r.begun u.1.begun r.described u.1.refused
not_both bytes cert Memory r u = u

pub one_certificate : NoTwoCertificates
one_certificate bytes cert other r s = same_ok cert other (sym r.told ∙ same_told bytes r.voc s.voc r.behind s.behind cert.language other.language r.begun s.begun r.described s.described ∙ s.told)

one_line : (bytes : List ℕ) (i j : ℕ) → (vocabulary_in bytes ≡ Err (BadLine i)) ⊎ IsBadBehind bytes i → (vocabulary_in bytes ≡ Err (BadLine j)) ⊎ IsBadBehind bytes j → BadLine i ≡ BadLine j
one_line bytes i j (inl h) (inl k) = same_err {A = List ℕ × Unread} (BadLine i) (BadLine j) (sym h ∙ k)
one_line bytes i j (inl h) (inr b) = absurd (ok_err (b.voc, b.behind) (BadLine i) (sym b.begun ∙ h))
one_line bytes i j (inr a) (inl k) = absurd (ok_err (a.voc, a.behind) (BadLine j) (sym a.begun ∙ k))
one_line bytes i j (inr a) (inr b) =
    same_err {A = Certificate} (BadLine i) (BadLine j) (sym a.told ∙ same_told bytes a.voc b.voc a.behind b.behind a.language b.language a.begun b.begun a.described b.described ∙ b.told)

line_or_voc : (bytes : List ℕ) (i : ℕ) (fault : VocFault) → (vocabulary_in bytes ≡ Err (BadLine i)) ⊎ IsBadBehind bytes i → IsVocRefused bytes fault → ⊥
line_or_voc bytes i fault (inl h) v = ok_err (v.voc, v.behind) (BadLine i) (sym v.begun ∙ h)
line_or_voc bytes i fault (inr b) v = voc_taken bytes b.voc v.voc b.behind v.behind b.language fault b.begun v.begun b.described v.refused

one_voc : (bytes : List ℕ) (fault other : VocFault) → IsVocRefused bytes fault → IsVocRefused bytes other → fault ≡ other
one_voc bytes fault other v w = same_Some fault other (sym v.refused ∙ ap refusal_of_vocabulary (same_voc bytes v.voc w.voc v.behind w.behind v.begun w.begun) ∙ w.refused)

pub one_fault : NoTwoFaults
one_fault bytes TooLong TooLong u w = refl
one_fault bytes TooLong (BadLine j) u w = absurd (too_long bytes w.0 u)
one_fault bytes TooLong (Voc other) u w = absurd (too_long bytes w.0 u)
one_fault bytes TooLong Memory u w = absurd w
one_fault bytes (BadLine i) TooLong u w = absurd (too_long bytes u.0 w)
one_fault bytes (BadLine i) (BadLine j) u w = one_line bytes i j u.1 w.1
one_fault bytes (BadLine i) (Voc other) u w = absurd (line_or_voc bytes i other u.1 w.1)
one_fault bytes (BadLine i) Memory u w = absurd w
one_fault bytes (Voc fault) TooLong u w = absurd (too_long bytes u.0 w)
one_fault bytes (Voc fault) (BadLine j) u w = absurd (line_or_voc bytes j fault w.1 u.1)
one_fault bytes (Voc fault) (Voc other) u w = ap Voc (one_voc bytes fault other u.1 w.1)
one_fault bytes (Voc fault) Memory u w = absurd w
one_fault bytes Memory other u w = absurd u
