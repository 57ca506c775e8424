-- The line of an answer is read as that answer.
use Rattle.cert_check.proofs.Prelude.{◌≡◌, ℕ, zero, suc, ◌+◌, ◌<◌, ◌≤◌, not, Bool, true, false, List, [], ◌∷◌, ◌++◌, length, replicate, set, Option, Some, None, is_some, refl, sym, ◌∙◌, ap, subst, arith, append_assoc, inl, inr, ◌⊎◌, All, ◌==◌, codes, decimal, flat_map, list_all, list_any, range_with_len, option_map, option_and_then, both_ways, cases_eq, cases_lt, same_Some, ext_get_or, get_or-set_same, get_or-set_other, length-replicate, length-set, All-nil, All-cons, All-head, All-tail, Assignment, value_of, Answer, ValueRange, range_in, Language, IsLanguage, IsQuestion, variable_count, range_of, is_ranged, number_from, value_in, pair_in, with_pairs, question_in, reply_in, answer_line_in, entry_line, numbered_value, reply_text, Lacks, lacks_by, lacks_both, lacks_first, cut_found, spaced, spaced_lacks, words_joined, IsNoDigit, decimal_lacks, from_read}
use Rattle.cert_check.proofs.InTurn.{pairs_go_on, pairs_done}
use Rattle.cert_check.proofs.LinesBack.{Says}
use Rattle.cert_check.proofs.Within.{bounds}

-- ---- The words of a question

abbrev pub value_word : ℕ → ℕ → List ℕ
value_word v x = decimal v ++ 58 ∷ decimal x

-- with that of a variable, where it has a value
abbrev with_word : ℕ → Option ℕ → List (List ℕ) → List (List ℕ)
with_word v None words = words
with_word v (Some x) words = value_word v x ∷ words

-- those of n variables from k on
abbrev pub value_words : Assignment → ℕ → ℕ → List (List ℕ)
value_words e k zero = []
value_words e k (suc n) = with_word k (value_of e k) (value_words e (k + 1) n)

values_spaced : (e : Assignment) (k n : ℕ) → flat_map (λ v. numbered_value v (value_of e v)) (range_with_len k n) ≡ spaced (value_words e k n)
values_spaced e k zero = refl
values_spaced e k (suc n) = ap (λ rest. numbered_value k (value_of e k) ++ rest) (values_spaced e (k + 1) n) ∙ go (value_of e k)
  where
    go : (o : Option ℕ) → numbered_value k o ++ spaced (value_words e (k + 1) n) ≡ spaced (with_word k o (value_words e (k + 1) n))
    go None = refl
    go (Some x) = refl

-- no variable has a value
abbrev blank_of : ℕ → Assignment
blank_of n = replicate n None

blank_at : (n v : ℕ) → value_of (blank_of n) v ≡ None
blank_at zero v = refl
blank_at (suc n) zero = refl
blank_at (suc n) (suc v) = blank_at n v

none_there : (n : ℕ) → list_any is_some (blank_of n) ≡ false
none_there zero = refl
none_there (suc n) = none_there n

-- few variables, each with no value or one of its range
record IsShown (ranges : List ValueRange) (e : Assignment) : Type 0 where
  few : length e ≤ 128
  small : (v x : ℕ) → v < length e → value_of e v ≡ Some x → x < 64
  ranged : (v x : ℕ) → v < length e → value_of e v ≡ Some x → ((range_in ranges v).first ≤ x) × (x ≤ (range_in ranges v).last)

module _ (ranges : List ValueRange) (e : Assignment) (shown : IsShown ranges e) where
  words_lack : (byte k n : ℕ) → IsNoDigit byte → (58 == byte) ≡ false → k + n ≡ length e → All (Lacks byte) (value_words e k n)
  words_lack byte k zero apart other all = All-nil (Lacks byte)
  words_lack byte k (suc n) apart other all = go (value_of e k) refl (words_lack byte (k + 1) n apart other (omega arith))
    where
      go : (o : Option ℕ) → value_of e k ≡ o → All (Lacks byte) (value_words e (k + 1) n) → All (Lacks byte) (with_word k o (value_words e (k + 1) n))
      go None is rest = rest
      go (Some x) is rest =
          let few = shown.few in
          let low = shown.small k x (omega arith) is in
          All-cons (Lacks byte) (value_word k x) (value_words e (k + 1) n)
          (lacks_both byte (decimal k) (58 ∷ decimal x) (decimal_lacks byte k apart (omega (arith, few))) (lacks_first byte 58 (decimal x) other (decimal_lacks byte x apart (omega (arith, low))))) rest

  pair_back : (least v x : ℕ) → least ≤ v → v < length e → value_of e v ≡ Some x → pair_in ranges (length e) least (value_word v x) ≡ Some (v, x)
  pair_back least v x from low is =
      let few = shown.few in
      let small = shown.small v x low is in
      let within = shown.ranged v x low is in
      let last = within.1 in
      ap (option_and_then (λ (parts : List ℕ × List ℕ). option_and_then (λ (w : ℕ). option_map {U = ℕ × ℕ} (λ y. (w, y)) (value_in (range_in ranges w) parts.1)) (number_from least (length e) parts.0)))
      (cut_found 58 (decimal v) (decimal x) (decimal_lacks 58 v (inr (omega arith)) (omega (arith, few, low))))
      ∙ ap (option_and_then (λ (w : ℕ). option_map {U = ℕ × ℕ} (λ y. (w, y)) (value_in (range_in ranges w) (decimal x)))) (from_read least (length e) v from low (omega (arith, few, low)))
      ∙ ap (option_map {U = ℕ × ℕ} (λ y. (v, y))) (from_read (range_in ranges v).first ((range_in ranges v).last + 1) x within.0 (omega (arith, last)) (omega (arith, small)))

  -- d has the values of the first k variables, and no others
  record IsFront (d : Assignment) (k : ℕ) : Type 0 where
    long : length d ≡ length e
    done : (v : ℕ) → v < k → value_of d v ≡ value_of e v
    bare : (v : ℕ) → k ≤ v → value_of d v ≡ None

  passed_over : (d : Assignment) (k : ℕ) → IsFront d k → value_of e k ≡ None → IsFront d (k + 1)
  passed_over d k front none = record {
    long = front.long;
    done = λ v low. go v low (cases_lt v k);
    bare = λ v high. front.bare v (omega arith);
  }
    where
      go : (v : ℕ) → v < k + 1 → (v < k) ⊎ (k ≤ v) → value_of d v ≡ value_of e v
      go v low (inl before) = front.done v before
      go v low (inr from) = let here : v ≡ k = omega arith in front.bare v from ∙ sym (ap (value_of e) here ∙ none)

  put : (d : Assignment) (k x : ℕ) → k < length e → IsFront d k → value_of e k ≡ Some x → IsFront (set d k (Some x)) (k + 1)
  put d k x low front some = record {
    long = length-set d k (Some x) ∙ front.long;
    done = λ v before. go v before (cases_eq v k);
    bare = λ v high. get_or-set_other d k v (Some x) None (λ same. absurd (omega (arith, same))) ∙ front.bare v (omega arith);
  }
    where
      go : (v : ℕ) → v < k + 1 → (v ≡ k) ⊎ (v ≡ k → ⊥) → value_of (set d k (Some x)) v ≡ value_of e v
      go v before (inl same) =
          ap (value_of (set d k (Some x))) same ∙ get_or-set_same d k (Some x) None (let long = front.long in omega (arith, long, low)) ∙ sym (ap (value_of e) same ∙ some)
      go v before (inr apart) = get_or-set_other d k v (Some x) None apart ∙ front.done v (omega (arith, apart))

  pairs_back : (d : Assignment) (least k n : ℕ) → k + n ≡ length e → least ≤ k → IsFront d k → with_pairs ranges least d (value_words e k n) ≡ Some e
  pairs_back d least k zero all from front = pairs_done ranges least d ∙ ap Some (ext_get_or None d e front.long (λ i low. front.done i (let long = front.long in omega (arith, long))))
  pairs_back d least k (suc n) all from front = go (value_of e k) refl (λ next start. pairs_back next start (k + 1) n (omega arith))
    where
      go : (o : Option ℕ) → value_of e k ≡ o → ((next : Assignment) (start : ℕ) → start ≤ k + 1 → IsFront next (k + 1) → with_pairs ranges start next (value_words e (k + 1) n) ≡ Some e) →
          with_pairs ranges least d (with_word k o (value_words e (k + 1) n)) ≡ Some e
      go None is rest = rest d least (omega arith) (passed_over d k front is)
      go (Some x) is rest =
          pairs_go_on ranges least d (value_word k x) (value_words e (k + 1) n) k x (ap (λ m. pair_in ranges m least (value_word k x)) front.long ∙ pair_back least k x from (omega arith) is)
          ∙ rest (set d k (Some x)) (k + 1) (omega arith) (put d k x (omega arith) front is)

  nothing_yet : IsFront (blank_of (length e)) 0
  nothing_yet = record { long = length-replicate (length e) None; done = λ v low. absurd (omega arith); bare = λ v from. blank_at (length e) v }

  all_back : with_pairs ranges 0 (blank_of (length e)) (value_words e 0 (length e)) ≡ Some e
  all_back = pairs_back (blank_of (length e)) 0 0 (length e) (omega arith) (omega arith) nothing_yet

-- ---- The line of an answer

abbrev answer_of : Bool → Assignment → Answer
answer_of reply q = record { question = q; yes = reply }

reply_back : (reply : Bool) → reply_in (reply_text reply) ≡ Some reply
reply_back true = refl
reply_back false = refl

reply_lacks : (byte : ℕ) (reply : Bool) → list_all (λ b. not (b == byte)) (codes "yes") ≡ true → list_all (λ b. not (b == byte)) (codes "no") ≡ true → Lacks byte (reply_text reply)
reply_lacks byte true h other = lacks_by byte (codes "yes") h
reply_lacks byte false other h = lacks_by byte (codes "no") h

module _ (l : Language) (a : Answer) (lawful : IsLanguage l) (asked : IsQuestion l a.question) (valued : list_any is_some a.question ≡ true) where
  abbrev all_words : List (List ℕ)
  all_words = value_words a.question 0 (length a.question)

  shown : IsShown l.ranges a.question
  shown = record {
    few = (let size = asked.size in let few = lawful.few_variables in omega (arith, size, few));
    small = λ v x low is. (let fits = asked.values_fit v None low x is in let few = lawful.few_values in omega (arith, fits, few));
    ranged = λ v x low is. bounds (range_of l v) x (sym (ap (is_ranged l v) is) ∙ asked.within v (let size = asked.size in omega (arith, size, low)));
  }

  question_back : (word : List ℕ) (words : List (List ℕ)) → all_words ≡ word ∷ words → question_in l (word ++ spaced words) ≡ Some a.question
  question_back word words is =
      let free : All (Lacks 32) (word ∷ words) = subst (All (Lacks 32)) is (words_lack l.ranges a.question shown 32 0 (length a.question) (inl (omega arith)) refl (omega arith)) in
      ap (with_pairs l.ranges 0 (blank_of (variable_count l))) (words_joined word words (All-head (Lacks 32) word words free) (All-tail (Lacks 32) word words free) ∙ sym is)
      ∙ ap (λ n. with_pairs l.ranges 0 (blank_of n) all_words) (sym asked.size)
      ∙ all_back l.ranges a.question shown

  answer_back : (words : List (List ℕ)) → all_words ≡ words → answer_line_in l (reply_text a.yes ++ spaced words) ≡ Some a
  answer_back [] none =
      let empty : blank_of (length a.question) ≡ a.question = same_Some (blank_of (length a.question)) a.question
      (sym (pairs_done l.ranges 0 (blank_of (length a.question))) ∙ ap (with_pairs l.ranges 0 (blank_of (length a.question))) (sym none) ∙ all_back l.ranges a.question shown) in
      absurd (both_ways _ (none_there (length a.question)) (ap (list_any is_some) empty ∙ valued))
  answer_back (word ∷ words) is =
      ap (option_and_then (λ (parts : List ℕ × List ℕ). option_and_then (λ (reply : Bool). option_map (answer_of reply) (question_in l parts.1)) (reply_in parts.0)))
      (cut_found 32 (reply_text a.yes) (word ++ spaced words) (reply_lacks 32 a.yes refl refl))
      ∙ ap (option_and_then (λ (reply : Bool). option_map (answer_of reply) (question_in l (word ++ spaced words)))) (reply_back a.yes)
      ∙ ap (option_map (answer_of a.yes)) (question_back word words is)

  pub entry_said : Says (answer_line_in l) (entry_line a) a
  entry_said = record {
    text = reply_text a.yes ++ spaced all_words;
    is = ap (λ values. reply_text a.yes ++ (values ++ 10 ∷ [])) (values_spaced a.question 0 (length a.question)) ∙ sym (append_assoc (reply_text a.yes) (spaced all_words) (10 ∷ []));
    free = lacks_both 10 (reply_text a.yes) (spaced all_words) (reply_lacks 10 a.yes refl refl)
        (spaced_lacks 10 all_words refl (words_lack l.ranges a.question shown 10 0 (length a.question) (inl (omega arith)) refl (omega arith)));
    read = answer_back all_words refl;
  }
