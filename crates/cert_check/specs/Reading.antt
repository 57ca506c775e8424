-- Reading the text of a certificate line by line, up to the first that is missing or wrong.
use Rattle.std.specs.Prelude.{ℕ, zero, suc, ◌+◌, ◌==◌, ◌≡◌, ◌≤◌, ◌<◌, ◌⊎◌, nat_le, nat_lt, Bool}
use Rattle.std.specs.Prelude.{true, false, ◌&&◌, List, [], ◌∷◌, length, take, drop, replicate}
use Rattle.std.specs.Prelude.{slice_index, slice_set, Option, Some, None, Result, Ok, Err}
use Rattle.std.specs.Prelude.{if◌then◌else◌, codes}
use Rattle.std.specs.Option.{ok_or, option_map, option_and_then}
use Rattle.std.specs.Str.{bytes_eq}
use Rattle.assign.specs.Assignment.{Assignment}
use Rattle.assign.specs.Events.{Answer}
use Rattle.language.specs.declared.candidates.Candidate.{Candidate}
use Rattle.language.specs.declared.ranges.ValueRange.{ValueRange}
use Rattle.language.specs.Ranges.{range_in}
use Rattle.language.specs.Language.{Language, variable_count, relations_on, candidates}
use Rattle.voc_read.specs.Vocabulary.{MOST_VOCABULARY, IsVocabulary, refusal_of_vocabulary}
use Rattle.voc_read.specs.declared.fault.VocFault.{VocFault}
use Rattle.line_text.specs.Words.{capped, cut_at, decimal_below, decimal_in, number_from, words_in}
use Rattle.cert_check.specs.declared.token.Token.{Token}
use Rattle.cert_check.specs.declared.token.Token.TheVariants.{Branch, Holds, Item}
use Rattle.cert_check.specs.declared.fault.CertFault.{CertFault}
use Rattle.cert_check.specs.declared.fault.CertFault.TheVariants.{TooLong, BadLine, Voc, Memory}
use Rattle.cert_check.specs.Certificate.{Certificate, Refutation}

-- the most bytes that a certificate has
abbrev pub MOST_CERTIFICATE : ℕ
MOST_CERTIFICATE = 67108864

-- the most answers
abbrev pub MOST_ANSWERS : ℕ
MOST_ANSWERS = 999999

-- ---- The forms of lines: what a line says, where it has the form

-- a word and a number: `network 1`
abbrev pub count_in : List ℕ → List ℕ → Option ℕ
count_in word line = option_and_then (λ parts. if bytes_eq parts.0 word
    then option_map capped (decimal_in parts.1) else None) (cut_at 32 line)

-- the same, where the number is at most so much
abbrev pub count_up_to : ℕ → List ℕ → List ℕ → Option ℕ
count_up_to most word line =
    option_and_then (λ n. if nat_le n most then Some n else None) (count_in word line)

-- the number of a value of a range
abbrev pub value_in : ValueRange → List ℕ → Option ℕ
value_in range digits = number_from range.first (range.last + 1) digits

-- the numbers of one of n variables, from the least on, and of a value of its range: `1:0`
abbrev pub pair_in : List ValueRange → ℕ → ℕ → List ℕ → Option (ℕ × ℕ)
pair_in ranges n least word = option_and_then (λ parts. option_and_then (λ v. option_map (λ x.
    (v, x)) (value_in (range_in ranges v) parts.1)) (number_from least n parts.0)) (cut_at 58 word)

-- the assignment with the values that these words give too, to variables that rise from the least
-- on
unfoldable pub with_pairs : List ValueRange → ℕ → Assignment → List (List ℕ) → Option Assignment
with_pairs ranges least e [] = Some e
with_pairs ranges least e (word ∷ words) = option_and_then (λ pair. with_pairs ranges
    (pair.0 + 1) (slice_set e pair.0 (Some pair.1)) words) (pair_in ranges (length e) least word)

-- the assignment that gives these values
abbrev pub question_in : Language → List ℕ → Option Assignment
question_in l pairs = with_pairs l.ranges 0 (replicate (variable_count l) None) (words_in pairs)

abbrev pub reply_in : List ℕ → Option Bool
reply_in word = if bytes_eq word
    (codes "yes") then Some true else (if bytes_eq word (codes "no") then Some false else None)

-- a reply, and one value or more: `yes 0:0 1:1`
abbrev pub answer_line_in : Language → List ℕ → Option Answer
answer_line_in l line = option_and_then (λ parts. option_and_then (λ yes. option_map (λ q.
    record { question = q; yes = yes }) (question_in l parts.1)) (reply_in parts.0))
    (cut_at 32 line)

-- the numbers of a scope and of a relation on it: `0 1`
abbrev pub item_in : Language → List ℕ → Option Candidate
item_in l line = option_and_then (λ parts. option_and_then (λ scope. option_map (λ rel.
    record { scope = scope; rel = rel }) (decimal_below (length (relations_on l scope)) parts.1))
    (decimal_below (length l.scopes) parts.0)) (cut_at 32 line)

-- a node, where the network has so many items
abbrev pub token_in : ℕ → List ℕ → Option Token
token_in items word = if bytes_eq word (codes "b") then Some Branch else (if bytes_eq word
    (codes "c") then Some Holds else option_map Item (decimal_below items word))

unfoldable pub tokens_in : ℕ → List (List ℕ) → Option (List Token)
tokens_in items [] = Some []
tokens_in items (word ∷ words) = option_and_then (λ token.
    option_map (λ more. token ∷ more) (tokens_in items words)) (token_in items word)

abbrev pub listed_of : Language → ℕ → ℕ → List (List ℕ) → Option Refutation
listed_of l items least [] = None
listed_of l items least (number ∷ words) =
    option_and_then (λ c. option_map (λ tokens. record { candidate = c; tokens = tokens })
    (tokens_in items words)) (number_from least (length (candidates l)) number)

-- a candidate's number, from the least on, and its tokens: `0 b c 1`
abbrev pub item_listed_in : Language → ℕ → ℕ → List ℕ → Option Refutation
item_listed_in l items least line = listed_of l items least (words_in line)

-- ---- Lines, one after the other

-- what isn't read yet: the number of its first line, and its bytes
pub record Unread : Type 0 where
  pub line : ℕ
  pub bytes : List ℕ

-- goes on with what was read, where nothing was wrong
infixl 10 ◌>>=◌
abbrev pub ◌>>=◌ : {A B : Type 0} → Result A CertFault → (A → Result B CertFault) →
    Result B CertFault
(Ok x) >>= next = next x
(Err fault) >>= next = Err fault

-- the next line, which ends with a newline, and what is behind it
abbrev pub line_in : Unread → Result (List ℕ × Unread) CertFault
line_in unread =
    ok_or (option_map (λ parts. (parts.0, record { line = unread.line + 1; bytes = parts.1 }))
    (cut_at 10 unread.bytes)) (BadLine unread.line)

-- what the next line says in this form, and what is behind it
unfoldable pub next_line : {A : Type 0} → (List ℕ → Option A) → Unread →
    Result (A × Unread) CertFault
next_line form unread = do
  found ← line_in unread
  said ← ok_or (form found.0) (BadLine unread.line)
  Ok (said, found.1)

-- what is behind the next line, where it is exactly this one
unfoldable pub behind_line : List ℕ → Unread → Result Unread CertFault
behind_line text unread = do
  found ← line_in unread
  if bytes_eq found.0 text then Ok found.1 else Err (BadLine unread.line)

-- what so many lines say; the form of each may depend on a number, for which the line before it
-- gives the next
unfoldable pub lines_in : {A : Type 0} → (ℕ → List ℕ → Option A) → (A → ℕ) → ℕ → ℕ → Unread →
    Result (List A × Unread) CertFault
lines_in form next least zero unread = Ok ([], unread)
lines_in form next least (suc n) unread = do
  first ← next_line (form least) unread
  others ← lines_in form next (next first.0) n first.1
  Ok (first.0 ∷ others.0, others.1)

-- so many bytes and a newline, which count as one line
unfoldable pub block_in : ℕ → Unread → Result (List ℕ × Unread) CertFault
block_in size unread =
    if nat_lt size (length unread.bytes) && (slice_index unread.bytes size == 10)
    then Ok (
      take size unread.bytes,
      record { line = unread.line + 1; bytes = drop (size + 1) unread.bytes },
    )
    else Err (BadLine unread.line)

abbrev pub answers_read : Language → ℕ → Unread → Result (List Answer × Unread) CertFault
answers_read l = lines_in (λ _. answer_line_in l) (λ _. 0) 0

abbrev pub item_lines : Language → ℕ → Unread → Result (List Candidate × Unread) CertFault
item_lines l = lines_in (λ _. item_in l) (λ _. 0) 0

-- candidates' numbers rise
abbrev pub listed_lines : Language → ℕ → ℕ → Unread → Result (List Refutation × Unread) CertFault
listed_lines l items = lines_in (item_listed_in l items) (λ (r : Refutation). r.candidate + 1) 0

-- ---- The whole

-- the vocabulary's bytes, and what is behind them
unfoldable pub vocabulary_in : List ℕ → Result (List ℕ × Unread) CertFault
vocabulary_in bytes = do
  first ← behind_line (codes "QUACQCERT1") (record { line = 0; bytes = bytes })
  size ← next_line (count_up_to MOST_VOCABULARY (codes "vocabulary")) first
  block_in size.0 size.1

-- the last line, and nothing behind it
unfoldable pub last_line_in : Unread → Result (Unit {0}) CertFault
last_line_in unread = do
  behind ← behind_line (codes "end") unread
  if length behind.bytes == 0 then Ok tt else Err (BadLine behind.line)

-- what the lines behind the vocabulary say, in its language
unfoldable pub certificate_in : Language → Unread → Result Certificate CertFault
certificate_in l unread = do
  m ← next_line (count_up_to MOST_ANSWERS (codes "answers")) unread
  answers ← answers_read l m.0 m.1
  k ← next_line (count_in (codes "network")) answers.1
  network ← item_lines l k.0 k.1
  j ← next_line (count_in (codes "implied")) network.1
  refutations ← listed_lines l (length network.0) j.0 j.1
  last ← last_line_in refutations.1
  Ok (record {
    language = l;
    answers = answers.0;
    network = network.0;
    refutations = refutations.0;
  })

-- The bytes are read as this certificate.
pub record IsRead (bytes : List ℕ) (cert : Certificate) : Type 0 where
  pub short : length bytes ≤ MOST_CERTIFICATE
  pub voc : List ℕ
  pub behind : Unread
  pub begun : vocabulary_in bytes ≡ Ok (voc, behind)
  pub described : IsVocabulary voc cert.language
  pub told : certificate_in cert.language behind ≡ Ok cert

-- The vocabulary's bytes are there, and refused.
pub record IsVocRefused (bytes : List ℕ) (fault : VocFault) : Type 0 where
  pub voc : List ℕ
  pub behind : Unread
  pub begun : vocabulary_in bytes ≡ Ok (voc, behind)
  pub refused : refusal_of_vocabulary voc ≡ Some fault

-- This line behind the vocabulary is the first that is missing or wrong.
pub record IsBadBehind (bytes : List ℕ) (i : ℕ) : Type 0 where
  pub voc : List ℕ
  pub behind : Unread
  pub language : Language
  pub begun : vocabulary_in bytes ≡ Ok (voc, behind)
  pub described : IsVocabulary voc language
  pub told : certificate_in language behind ≡ Err (BadLine i)

-- why no certificate is read
abbrev pub IsUnreadable : List ℕ → CertFault → Type 0
IsUnreadable bytes TooLong = MOST_CERTIFICATE < length bytes
IsUnreadable bytes (BadLine i) = (length bytes ≤ MOST_CERTIFICATE)
    × ((vocabulary_in bytes ≡ Err (BadLine i)) ⊎ IsBadBehind bytes i)
IsUnreadable bytes (Voc fault) = (length bytes ≤ MOST_CERTIFICATE) × IsVocRefused bytes fault
IsUnreadable bytes Memory = ⊥
