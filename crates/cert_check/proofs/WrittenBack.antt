-- The text of a certificate is read as that certificate.
use Rattle.cert_check.proofs.Prelude.{◌≡◌, ℕ, suc, ◌+◌, ◌<◌, ◌≤◌, ◌^◌, Bool, true, false, cond, List, [], ◌∷◌, ◌++◌, length, map, is_some, Option, Result, Ok, Err, refl, sym, ◌∙◌, ap, subst, arith, append_assoc, All, ◌==◌, nat_lt, codes, slice_index, flat_map, list_any, ok_or, ltb-false, All-head, All-tail, Answer, Candidate, Language, IsLanguage, IsCandidate, IsQuestion, candidates, IsNetwork, then_on, MOST_VOCABULARY, json_of, parts_in, vocabulary_parts, IsVocabulary, NotJson, CertFault, BadLine, Certificate, Refutation, ◌>>=◌, Unread, MOST_ANSWERS, MOST_CERTIFICATE, answer_line_in, item_in, item_listed_in, count_in, count_up_to, next_line, behind_line, lines_in, vocabulary_in, last_line_in, certificate_in, IsRead, answers_section, certificate_text, count_line, end_line, entry_line, implied_section, item_line, listed_line, network_section, HaveValues, IsNodeOver, WrittenIsRead, lacks_by}
use Rattle.std.specs.List.Sorted.{IsStrictlyIncreasing}
use Rattle.voc_read.specs.declared.fault.VocFault.TheVariants.{TooLong}
use Rattle.cert_check.proofs.LinesBack.{AreSaid, Says, block_back, count_said, count_up_to_said, from, known_back, lines_back, said_back}
use Rattle.cert_check.proofs.ListedBack.{item_said, listed_said}
use Rattle.cert_check.proofs.QuestionsBack.{entry_said}

-- ---- The members of a section

answers_said : (l : Language) (t : List Answer) → IsLanguage l → All (λ a. IsQuestion l a.question) t → HaveValues t → AreSaid (λ _. answer_line_in l) (λ _. 0) entry_line 0 t
answers_said l [] lawful asked valued = tt
answers_said l (a ∷ t) lawful asked valued = (
  entry_said l a lawful (All-head (λ b. IsQuestion l b.question) a t asked) (All-head (λ b. list_any is_some b.question ≡ true) a t valued),
  answers_said l t lawful (All-tail (λ b. IsQuestion l b.question) a t asked) (All-tail (λ b. list_any is_some b.question ≡ true) a t valued),
)

items_said : (l : Language) (network : List Candidate) → IsLanguage l → IsNetwork l network → AreSaid (λ _. item_in l) (λ _. 0) item_line 0 network
items_said l [] lawful legal = tt
items_said l (c ∷ network) lawful legal = (item_said l c lawful (All-head (IsCandidate l) c network legal), items_said l network lawful (All-tail (IsCandidate l) c network legal))

-- the numbers rise, and none is below the least
abbrev pub Rise : ℕ → List ℕ → Type 0
Rise least [] = Unit {0}
Rise least (n ∷ numbers) = (least ≤ n) × Rise (n + 1) numbers

rise_on : (n : ℕ) (numbers : List ℕ) → IsStrictlyIncreasing (n ∷ numbers) → Rise (n + 1) numbers
rise_on n [] h = tt
rise_on n (m ∷ numbers) h = ((let low = h 0 (omega arith) in omega (arith, low)), rise_on m numbers (λ k low. subst (λ j. slice_index (m ∷ numbers) k < slice_index (n ∷ m ∷ numbers) j) (let e : suc k + 1 ≡ suc (k + 1) = omega arith in e) (h (suc k) (omega (arith, low)))))

rise : (numbers : List ℕ) → IsStrictlyIncreasing numbers → Rise 0 numbers
rise [] h = tt
rise (n ∷ numbers) h = (omega arith, rise_on n numbers h)

abbrev pub number : Refutation → ℕ
number r = r.candidate

listed_all_said : (l : Language) (items least : ℕ) (refutations : List Refutation) → IsLanguage l → items < 2 ^ 32 → Rise least (map number refutations) → All (λ r. r.candidate < length (candidates l)) refutations →
    All (λ r. All (IsNodeOver items) r.tokens) refutations → AreSaid (item_listed_in l items) (λ (r : Refutation). r.candidate + 1) listed_line least refutations
listed_all_said l items least [] lawful few rising known nodes = tt
listed_all_said l items least (r ∷ rs) lawful few rising known nodes = (
  listed_said items few l least r lawful rising.0 (All-head (λ s. s.candidate < length (candidates l)) r rs known) (All-head (λ s. All (IsNodeOver items) s.tokens) r rs nodes),
  listed_all_said l items (r.candidate + 1) rs lawful few rising.1 (All-tail (λ s. s.candidate < length (candidates l)) r rs known) (All-tail (λ s. All (IsNodeOver items) s.tokens) r rs nodes),
)

-- ---- Sections

then_ok : {A B : Type 0} (read : Result A CertFault) (next : A → Result B CertFault) (x : A) (y : B) → read ≡ Ok x → next x ≡ Ok y → (read >>= next) ≡ Ok y
then_ok read next x y is rest = ap (λ r. r >>= next) is ∙ rest

-- a count, and as many lines
section_back : {A B : Type 0} (counted : List ℕ → Option ℕ) (form : ℕ → List ℕ → Option A) (next : A → ℕ) (line : A → List ℕ) (head : List ℕ) (n : ℕ) (xs : List A) (rest : List ℕ) (more : List A × Unread → Result B CertFault) (y : B) →
    Says counted head (length xs) → AreSaid form next line 0 xs → more (xs, from ((n + 1) + length xs) rest) ≡ Ok y →
    (next_line counted (from n ((head ++ flat_map line xs) ++ rest)) >>= λ m. lines_in form next 0 m.0 m.1 >>= more) ≡ Ok y
section_back counted form next line head n xs rest more y count said done =
    ap (λ bytes. next_line counted (from n bytes) >>= λ m. lines_in form next 0 m.0 m.1 >>= more) (append_assoc head (flat_map line xs) rest)
    ∙ then_ok (next_line counted (from n (head ++ (flat_map line xs ++ rest)))) (λ m. lines_in form next 0 m.0 m.1 >>= more) (length xs, from (n + 1) (flat_map line xs ++ rest)) y (said_back counted n head (flat_map line xs ++ rest) (length xs) count)
    (then_ok (lines_in form next 0 (length xs) (from (n + 1) (flat_map line xs ++ rest))) more (xs, from ((n + 1) + length xs) rest) y (lines_back form next line 0 (n + 1) xs rest said) done)

end_back : (n : ℕ) → last_line_in (from n end_line) ≡ Ok tt
unfolding last_line_in
end_back n = ap (λ r. r >>= λ behind. cond (length behind.bytes == 0) (Ok tt) (Err (BadLine behind.line))) (known_back (codes "end") n [] (lacks_by 10 (codes "end") refl) refl)

voc_short : (voc : List ℕ) (l : Language) → IsVocabulary voc l → length voc ≤ MOST_VOCABULARY
unfolding vocabulary_parts
voc_short voc l is = go (nat_lt MOST_VOCABULARY (length voc)) refl
  where
    go : (b : Bool) → nat_lt MOST_VOCABULARY (length voc) ≡ b → length voc ≤ MOST_VOCABULARY
    go false e = ltb-false MOST_VOCABULARY (length voc) e
    go true e = absurd (let no : Err TooLong ≡ Ok is.parts = sym (ap (λ b. cond b (Err TooLong) (then_on (ok_or (json_of voc) NotJson) parts_in)) e) ∙ is.read in cc)

vocabulary_back : (voc rest : List ℕ) → length voc ≤ MOST_VOCABULARY → vocabulary_in (codes "QUACQCERT1" ++ 10 ∷ (count_line (codes "vocabulary") (length voc) ++ (voc ++ 10 ∷ rest))) ≡ Ok (voc, from 3 rest)
unfolding vocabulary_in
vocabulary_back voc rest short =
    let count : List ℕ = count_line (codes "vocabulary") (length voc) in
    then_ok (behind_line (codes "QUACQCERT1") (from 0 (codes "QUACQCERT1" ++ 10 ∷ (count ++ (voc ++ 10 ∷ rest))))) _ (from 1 (count ++ (voc ++ 10 ∷ rest))) (voc, from 3 rest)
    (known_back (codes "QUACQCERT1") 0 (count ++ (voc ++ 10 ∷ rest)) (lacks_by 10 (codes "QUACQCERT1") refl) refl)
    (then_ok (next_line (count_up_to MOST_VOCABULARY (codes "vocabulary")) (from 1 (count ++ (voc ++ 10 ∷ rest)))) _ (length voc, from 2 (voc ++ 10 ∷ rest)) (voc, from 3 rest)
    (said_back (count_up_to MOST_VOCABULARY (codes "vocabulary")) 1 count (voc ++ 10 ∷ rest) (length voc)
    (count_up_to_said MOST_VOCABULARY (codes "vocabulary") (length voc) (lacks_by 10 (codes "vocabulary") refl) (lacks_by 32 (codes "vocabulary") refl) refl (omega (arith, short)) short))
    (block_back 2 voc rest))

-- ---- The whole

-- What is used of a certificate.
pub record IsTold (voc : List ℕ) (cert : Certificate) : Type 0 where
  pub lawful : IsLanguage cert.language
  pub described : IsVocabulary voc cert.language
  pub network : IsNetwork cert.language cert.network
  pub asked : All (λ a. IsQuestion cert.language a.question) cert.answers
  pub valued : HaveValues cert.answers
  pub few_answers : length cert.answers ≤ MOST_ANSWERS
  pub few_items : length cert.network < 2 ^ 32
  pub few_refutations : length cert.refutations < 2 ^ 32
  pub rising : Rise 0 (map number cert.refutations)
  pub known : All (λ r. r.candidate < length (candidates cert.language)) cert.refutations
  pub nodes : All (λ r. All (IsNodeOver (length cert.network)) r.tokens) cert.refutations
  pub short : length (certificate_text voc cert) ≤ MOST_CERTIFICATE

module _ (voc : List ℕ) (cert : Certificate) (told : IsTold voc cert) where
  abbrev behind : List ℕ
  behind = answers_section cert.answers ++ (network_section cert.network ++ (implied_section cert.refutations ++ end_line))

  laid : certificate_text voc cert ≡ codes "QUACQCERT1" ++ 10 ∷ (count_line (codes "vocabulary") (length voc) ++ (voc ++ 10 ∷ behind))
  laid =
      let count : List ℕ = count_line (codes "vocabulary") (length voc) in
      append_assoc (codes "QUACQCERT1") (10 ∷ (count ++ (voc ++ 10 ∷ []))) behind
      ∙ ap (λ rest. codes "QUACQCERT1" ++ 10 ∷ rest) (append_assoc count (voc ++ 10 ∷ []) behind ∙ ap (λ rest. count ++ rest) (append_assoc voc (10 ∷ []) behind))

  lines_told : certificate_in cert.language (from 3 behind) ≡ Ok cert
  unfolding certificate_in
  lines_told =
      let l : Language = cert.language in
      let m : ℕ = (3 + 1) + length cert.answers in
      let k : ℕ = (m + 1) + length cert.network in
      let few = told.few_answers in
      let few_items = told.few_items in
      let few_refutations = told.few_refutations in
      section_back (count_up_to MOST_ANSWERS (codes "answers")) (λ _. answer_line_in l) (λ _. 0) entry_line (count_line (codes "answers") (length cert.answers)) 3 cert.answers (network_section cert.network ++ (implied_section cert.refutations ++ end_line)) _ cert
      (count_up_to_said MOST_ANSWERS (codes "answers") (length cert.answers) (lacks_by 10 (codes "answers") refl) (lacks_by 32 (codes "answers") refl) refl (omega (arith, few)) few)
      (answers_said l cert.answers told.lawful told.asked told.valued)
      (section_back (count_in (codes "network")) (λ _. item_in l) (λ _. 0) item_line (count_line (codes "network") (length cert.network)) m cert.network (implied_section cert.refutations ++ end_line) _ cert
      (count_said (codes "network") (length cert.network) (lacks_by 10 (codes "network") refl) (lacks_by 32 (codes "network") refl) refl (omega (arith, few_items)))
      (items_said l cert.network told.lawful told.network)
      (section_back (count_in (codes "implied")) (item_listed_in l (length cert.network)) (λ (r : Refutation). r.candidate + 1) listed_line (count_line (codes "implied") (length cert.refutations)) k cert.refutations end_line _ cert
      (count_said (codes "implied") (length cert.refutations) (lacks_by 10 (codes "implied") refl) (lacks_by 32 (codes "implied") refl) refl (omega (arith, few_refutations)))
      (listed_all_said l (length cert.network) 0 cert.refutations told.lawful few_items told.rising told.known told.nodes)
      (then_ok (last_line_in (from ((k + 1) + length cert.refutations) end_line)) _ tt cert (end_back ((k + 1) + length cert.refutations)) refl)))

  pub certificate_back : IsRead (certificate_text voc cert) cert
  certificate_back = record {
    short = told.short;
    voc = voc;
    behind = from 3 behind;
    begun = ap vocabulary_in laid ∙ vocabulary_back voc behind (voc_short voc cert.language told.described);
    described = told.described;
    told = lines_told;
  }

pub written_is_read : WrittenIsRead
written_is_read voc cert is =
    let sound = is.sound in
    certificate_back voc cert (record {
      lawful = sound.lawful;
      described = is.described;
      network = sound.network;
      asked = sound.questions;
      valued = is.valued;
      few_answers = is.few;
      few_items = sound.few_items;
      few_refutations = sound.few_refutations;
      rising = rise (map number cert.refutations) is.rising;
      known = sound.known;
      nodes = is.nodes;
      short = is.short;
    })
