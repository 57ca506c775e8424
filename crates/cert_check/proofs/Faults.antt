-- What a reading answers that isn't a certificate: a bad line, and no other fault.
use Rattle.cert_check.proofs.Prelude.{◌≡◌, ℕ, zero, suc, ◌≤◌, ◌&&◌, Bool, true, false, cond, List, length, get_or, Option, Some, None, Result, Ok, Err, refl, sym, subst, eqb, ltb, inl, inr, ◌≢◌, IfOk, IfErr, codes, ok_or, bytes_eq, Language, MOST_VOCABULARY, IsVocabulary, CertFault, TooLong, BadLine, Voc, Memory, Certificate, Reads, ◌>>=◌, Unread, MOST_CERTIFICATE, MOST_ANSWERS, line_in, next_line, behind_line, lines_in, block_in, vocabulary_in, last_line_in, certificate_in, count_up_to, count_in, answers_read, item_lines, listed_lines, IsRead, IsUnreadable}

-- ---- Nothing else than a bad line is told

abbrev IsBadLine : CertFault → Type 0
IsBadLine TooLong = ⊥
IsBadLine (BadLine i) = Unit {0}
IsBadLine (Voc fault) = ⊥
IsBadLine Memory = ⊥

abbrev TellsLine : {A : Type 0} → Result A CertFault → Type 0
TellsLine (Ok x) = Unit {0}
TellsLine (Err fault) = IsBadLine fault

then_tells : {A B : Type 0} (r : Result A CertFault) (next : A → Result B CertFault) → TellsLine r → ((x : A) → TellsLine (next x)) → TellsLine (r >>= next)
then_tells (Ok x) next h more = more x
then_tells (Err fault) next h more = h

or_tells : {A : Type 0} (o : Option A) (i : ℕ) → TellsLine (ok_or o (BadLine i))
or_tells None i = tt
or_tells (Some x) i = tt

cond_tells : {A : Type 0} (b : Bool) (x : A) (i : ℕ) → TellsLine (cond b (Ok x) (Err (BadLine i)))
cond_tells true x i = tt
cond_tells false x i = tt

line_tells : (unread : Unread) → TellsLine (line_in unread)
line_tells unread = or_tells _ unread.line

next_tells : {A : Type 0} (form : List ℕ → Option A) (unread : Unread) → TellsLine (next_line form unread)
unfolding next_line
next_tells form unread =
    then_tells (line_in unread) _ (line_tells unread) (λ found. then_tells (ok_or (form found.0) (BadLine unread.line)) _ (or_tells (form found.0) unread.line) (λ said. tt))

behind_tells : (text : List ℕ) (unread : Unread) → TellsLine (behind_line text unread)
unfolding behind_line
behind_tells text unread = then_tells (line_in unread) _ (line_tells unread) (λ found. cond_tells (bytes_eq found.0 text) found.1 unread.line)

lines_tell : {A : Type 0} (form : ℕ → List ℕ → Option A) (next : A → ℕ) (least n : ℕ) (unread : Unread) → TellsLine (lines_in form next least n unread)
unfolding lines_in
lines_tell form next least zero unread = tt
lines_tell form next least (suc n) unread =
    then_tells (next_line (form least) unread) _ (next_tells (form least) unread) (λ first. then_tells (lines_in form next (next first.0) n first.1) _ (lines_tell form next (next first.0) n first.1) (λ others. tt))

block_tells : (size : ℕ) (unread : Unread) → TellsLine (block_in size unread)
unfolding block_in
block_tells size unread = cond_tells (ltb size (length unread.bytes) && eqb (get_or unread.bytes size 0) 10) _ unread.line

vocabulary_tells : (bytes : List ℕ) → TellsLine (vocabulary_in bytes)
unfolding vocabulary_in
vocabulary_tells bytes =
    then_tells (behind_line (codes "QUACQCERT1") (record { line = 0; bytes = bytes })) _ (behind_tells (codes "QUACQCERT1") (record { line = 0; bytes = bytes })) (λ first.
    then_tells (next_line (count_up_to MOST_VOCABULARY (codes "vocabulary")) first) _ (next_tells (count_up_to MOST_VOCABULARY (codes "vocabulary")) first) (λ size. block_tells size.0 size.1))

end_tells : (unread : Unread) → TellsLine (last_line_in unread)
unfolding last_line_in
end_tells unread = then_tells (behind_line (codes "end") unread) _ (behind_tells (codes "end") unread) (λ behind. cond_tells (eqb (length behind.bytes) 0) tt behind.line)

certificate_tells : (l : Language) (unread : Unread) → TellsLine (certificate_in l unread)
unfolding certificate_in
certificate_tells l unread =
    then_tells (next_line (count_up_to MOST_ANSWERS (codes "answers")) unread) _ (next_tells _ unread) (λ m.
    then_tells (answers_read l m.0 m.1) _ (lines_tell _ _ 0 m.0 m.1) (λ answers.
    then_tells (next_line (count_in (codes "network")) answers.1) _ (next_tells _ answers.1) (λ k.
    then_tells (item_lines l k.0 k.1) _ (lines_tell _ _ 0 k.0 k.1) (λ network.
    then_tells (next_line (count_in (codes "implied")) network.1) _ (next_tells _ network.1) (λ j.
    then_tells (listed_lines l (length network.0) j.0 j.1) _ (lines_tell _ _ 0 j.0 j.1) (λ refutations.
    then_tells (last_line_in refutations.1) _ (end_tells refutations.1) (λ last. tt)))))))

-- ---- The language is kept

abbrev HasLanguage : Language → Result Certificate CertFault → Type 0
HasLanguage l (Ok cert) = cert.language ≡ l
HasLanguage l (Err fault) = Unit {0}

then_has : {A : Type 0} (l : Language) (r : Result A CertFault) (next : A → Result Certificate CertFault) → ((x : A) → HasLanguage l (next x)) → HasLanguage l (r >>= next)
then_has l (Ok x) next more = more x
then_has l (Err fault) next more = tt

certificate_has : (l : Language) (unread : Unread) → HasLanguage l (certificate_in l unread)
unfolding certificate_in
certificate_has l unread =
    then_has l (next_line (count_up_to MOST_ANSWERS (codes "answers")) unread) _ (λ m.
    then_has l (answers_read l m.0 m.1) _ (λ answers.
    then_has l (next_line (count_in (codes "network")) answers.1) _ (λ k.
    then_has l (item_lines l k.0 k.1) _ (λ network.
    then_has l (next_line (count_in (codes "implied")) network.1) _ (λ j.
    then_has l (listed_lines l (length network.0) j.0 j.1) _ (λ refutations.
    then_has l (last_line_in refutations.1) _ (λ last. refl)))))))

-- ---- The whole

pub unread_before : (bytes : List ℕ) (fault : CertFault) → length bytes ≤ MOST_CERTIFICATE → vocabulary_in bytes ≡ Err fault → IsUnreadable bytes fault
unread_before bytes TooLong short h = absurd (subst TellsLine h (vocabulary_tells bytes))
unread_before bytes (BadLine i) short h = (short, inl h)
unread_before bytes (Voc fault) short h = absurd (subst TellsLine h (vocabulary_tells bytes))
unread_before bytes Memory short h = absurd (subst TellsLine h (vocabulary_tells bytes))

pub unread_behind : (bytes voc : List ℕ) (behind : Unread) (l : Language) (fault : CertFault) → length bytes ≤ MOST_CERTIFICATE → vocabulary_in bytes ≡ Ok (voc, behind) → IsVocabulary voc l → certificate_in l behind ≡ Err fault → IsUnreadable bytes fault
unread_behind bytes voc behind l TooLong short begun described h = absurd (subst TellsLine h (certificate_tells l behind))
unread_behind bytes voc behind l (BadLine i) short begun described h = (short, inr (record { voc = voc; behind = behind; language = l; begun = begun; described = described; told = h }))
unread_behind bytes voc behind l (Voc fault) short begun described h = absurd (subst TellsLine h (certificate_tells l behind))
unread_behind bytes voc behind l Memory short begun described h = absurd (subst TellsLine h (certificate_tells l behind))

pub read_behind : (bytes voc : List ℕ) (behind : Unread) (l : Language) (cert : Certificate) → length bytes ≤ MOST_CERTIFICATE → vocabulary_in bytes ≡ Ok (voc, behind) → IsVocabulary voc l → certificate_in l behind ≡ Ok cert → IsRead bytes cert
read_behind bytes voc behind l cert short begun described h =
    let same : cert.language ≡ l = subst (HasLanguage l) h (certificate_has l behind) in
    record {
      short = short;
      voc = voc;
      behind = behind;
      begun = begun;
      described = subst (IsVocabulary voc) (sym same) described;
      told = subst (λ d. certificate_in d behind ≡ Ok cert) (sym same) h;
    }

pub result_read : (bytes voc : List ℕ) (behind : Unread) (l : Language) (result : Result Certificate CertFault) → length bytes ≤ MOST_CERTIFICATE → vocabulary_in bytes ≡ Ok (voc, behind) → IsVocabulary voc l → Reads (λ cert. cert) (certificate_in l behind) result → IfOk result (λ cert. IsRead bytes cert)
result_read bytes voc behind l (Ok cert) short begun described h = read_behind bytes voc behind l cert short begun described h
result_read bytes voc behind l (Err fault) short begun described h = tt

pub result_refused : (bytes voc : List ℕ) (behind : Unread) (l : Language) (result : Result Certificate CertFault) → length bytes ≤ MOST_CERTIFICATE → vocabulary_in bytes ≡ Ok (voc, behind) → IsVocabulary voc l → Reads (λ cert. cert) (certificate_in l behind) result → IfErr result (λ fault. fault ≢ Memory → IsUnreadable bytes fault)
result_refused bytes voc behind l (Ok cert) short begun described h = tt
result_refused bytes voc behind l (Err fault) short begun described h = λ other. unread_behind bytes voc behind l fault short begun described (h other)
