-- Lines and words, cut off at the front.
use Rattle.net_cnf.proofs.Prelude.{◌≡◌, ℕ, zero, suc, ◌+◌, ◌-◌, ◌<◌, ◌≤◌, not, Bool, true, false, cond, List, [], ◌∷◌, ◌++◌, length, take, drop, get_or, Some, None, refl, sym, ◌∙◌, ap, arith, ◌⊎◌, inl, inr, position, All, nat_lt, flat_map, slice_split, onto_first, position_or_len, before_first, after_first, bytes_eq, codes, cases_lt, lt-ltb, not-false, not-true, not_from_false, take_all, drop_all, get_or-drop, length-append, length-drop, fails_before_first, is_blank, is_newline, is_remark, words, behind_v, tokens_of_line, all_tokens}
use Rattle.std.specs.Prelude.{filter}
use Rattle.std.proofs.lemmas.List.Quantifiers.{position-Some}
use Rattle.std.proofs.lemmas.List.Splits.{slice_split-cons_yes, slice_split-cons_no, slice_split_none, slice_split_first}
use Rattle.shared_lemmas.proofs.Read.{at_first, nowhere}

-- ---- where a test first passes

all_fail : {X : Type 0} (p : X → Bool) (xs : List X) → length xs ≤ position_or_len p xs → All (λ x. p x ≡ false) xs
all_fail p xs high = λ k d low. fails_before_first p xs k d (omega arith)

-- ---- lines

pub lines_step : (bytes : List ℕ) → all_tokens bytes ≡ tokens_of_line (before_first is_newline bytes) ++ all_tokens (after_first is_newline bytes)
lines_step bytes = go (cases_lt (position_or_len is_newline bytes) (length bytes))
  where
    go : (position_or_len is_newline bytes < length bytes) ⊎ (length bytes ≤ position_or_len is_newline bytes) → all_tokens bytes ≡ tokens_of_line (before_first is_newline bytes) ++ all_tokens (after_first is_newline bytes)
    go (inl low) = ap (flat_map tokens_of_line) (slice_split_first is_newline bytes 0 low)
    go (inr high) =
        let whole : before_first is_newline bytes ≡ bytes = take_all (position_or_len is_newline bytes) bytes high in
        let rest : after_first is_newline bytes ≡ [] = drop_all (position_or_len is_newline bytes + 1) bytes (omega arith) in
        ap (flat_map tokens_of_line) (slice_split_none is_newline bytes (all_fail is_newline bytes high))
        ∙ (λ i. tokens_of_line (sym whole i) ++ all_tokens (sym rest i))

-- ---- words

abbrev pub is_some_word : List ℕ → Bool
is_some_word word = nat_lt 0 (length word)

words_blank : (b : ℕ) (line : List ℕ) → is_blank b ≡ true → words (b ∷ line) ≡ words line
words_blank b line h = ap (filter is_some_word) (slice_split-cons_yes is_blank b line h)

-- blanks before a word don't matter
pub words_past : (line : List ℕ) (k : ℕ) → k ≤ length line → ((i : ℕ) → i < k → is_blank (get_or line i 0) ≡ true) → words line ≡ words (drop k line)
words_past line zero le h = refl
words_past [] (suc k) le h = absurd (omega arith)
words_past (b ∷ line) (suc k) le h = words_blank b line (h 0 (omega arith)) ∙ words_past line k (omega arith) (λ i low. h (suc i) (omega arith))

pub words_none : (line : List ℕ) → position (λ b. not (is_blank b)) line ≡ None → words line ≡ []
words_none line h =
    words_past line (length line) (omega arith) (λ i low. not-false _ (fails_before_first (λ b. not (is_blank b)) line i 0 (let high = nowhere (λ b. not (is_blank b)) line h in omega (arith, high))))
    ∙ ap words (drop_all (length line) line (omega arith))

cut_front : (b : ℕ) (line : List ℕ) → is_blank b ≡ false → before_first is_blank (b ∷ line) ≡ b ∷ before_first is_blank line
cut_front b line h =
    ap (λ s. take (cond s (1 + position_or_len is_blank line) 0) (b ∷ line)) (not_from_false (is_blank b) h)
    ∙ ap (λ k. take k (b ∷ line)) (let e : 1 + position_or_len is_blank line ≡ suc (position_or_len is_blank line) = omega arith in e)

is_word : (b : ℕ) (word : List ℕ) → is_some_word (b ∷ word) ≡ true
is_word b word = lt-ltb 0 (length (b ∷ word)) (omega arith)

-- a word at the front is the first
pub words_first : (line : List ℕ) → 0 < length line → is_blank (get_or line 0 0) ≡ false → words line ≡ before_first is_blank line ∷ words (after_first is_blank line)
words_first [] some h = absurd (omega arith)
words_first (b ∷ line) some h = go (cases_lt (position_or_len is_blank (b ∷ line)) (length (b ∷ line)))
  where
    kept : (more : List (List ℕ)) → filter is_some_word (before_first is_blank (b ∷ line) ∷ more) ≡ before_first is_blank (b ∷ line) ∷ filter is_some_word more
    kept more =
        ap (λ word. filter is_some_word (word ∷ more)) (cut_front b line h)
        ∙ ap (λ s. cond s ((b ∷ before_first is_blank line) ∷ filter is_some_word more) (filter is_some_word more)) (is_word b (before_first is_blank line))
        ∙ ap (λ word. word ∷ filter is_some_word more) (sym (cut_front b line h))

    go : (position_or_len is_blank (b ∷ line) < length (b ∷ line)) ⊎ (length (b ∷ line) ≤ position_or_len is_blank (b ∷ line)) → words (b ∷ line) ≡ before_first is_blank (b ∷ line) ∷ words (after_first is_blank (b ∷ line))
    go (inl low) = ap (filter is_some_word) (slice_split_first is_blank (b ∷ line) 0 low) ∙ kept (slice_split is_blank (after_first is_blank (b ∷ line)))
    go (inr high) =
        let whole : before_first is_blank (b ∷ line) ≡ b ∷ line = take_all (position_or_len is_blank (b ∷ line)) (b ∷ line) high in
        let rest : after_first is_blank (b ∷ line) ≡ [] = drop_all (position_or_len is_blank (b ∷ line) + 1) (b ∷ line) (omega arith) in
        ap (filter is_some_word) (slice_split_none is_blank (b ∷ line) (all_fail is_blank (b ∷ line) high))
        ∙ ap (λ s. cond s ((b ∷ line) ∷ []) []) (is_word b line)
        ∙ (λ i. sym whole i ∷ words (sym rest i))

-- what is left of a list, as a range of it
pub tail_is : (line : List ℕ) (k : ℕ) → take (length line - k) (drop k line) ≡ drop k line
tail_is line k = take_all (length line - k) (drop k line) (omega (arith, length-drop k line))

pub words_alone : (line : List ℕ) → 0 < length line → is_blank (get_or line 0 0) ≡ false → position is_blank line ≡ None → words line ≡ line ∷ words (take (length line - length line) (drop (length line) line))
words_alone line some word h =
    let high = nowhere is_blank line h in
    let rest : after_first is_blank line ≡ [] = drop_all (position_or_len is_blank line + 1) line (omega (arith, high)) in
    words_first line some word
    ∙ (λ i. take_all (position_or_len is_blank line) line high i ∷ words ((rest ∙ sym (tail_is line (length line) ∙ drop_all (length line) line (omega arith))) i))

pub words_cut : (line : List ℕ) (end : ℕ) → 0 < length line → is_blank (get_or line 0 0) ≡ false → position is_blank line ≡ Some end → words line ≡ take end line ∷ words (take (length line - (end + 1)) (drop (end + 1) line))
words_cut line end some word h =
    let at = (at_first is_blank line end h).0 in
    words_first line some word
    ∙ (λ i. take (at i) line ∷ words (drop (at i + 1) line))
    ∙ ap (λ rest. take end line ∷ words rest) (sym (tail_is line (end + 1)))

pub word_begins : (line : List ℕ) (start : ℕ) → position (λ b. not (is_blank b)) line ≡ Some start → is_blank (get_or (take (length line - start) (drop start line)) 0 0) ≡ false
word_begins line start h =
    ap (λ rest. is_blank (get_or rest 0 0)) (tail_is line start)
    ∙ ap is_blank (get_or-drop start line 0 0 ∙ ap (λ k. get_or line k 0) (let e : start + 0 ≡ start = omega arith in e))
    ∙ not-true (is_blank (get_or line start 0)) (position-Some (λ b. not (is_blank b)) line start 0 h).1

pub words_from : (line : List ℕ) (start : ℕ) → position (λ b. not (is_blank b)) line ≡ Some start → words line ≡ words (take (length line - start) (drop start line))
words_from line start h =
    let found = position-Some (λ b. not (is_blank b)) line start 0 h in
    let low = found.0 in
    words_past line start (omega (arith, low)) (λ i before. not-false (is_blank (get_or line i 0)) (found.2 i before))
    ∙ ap words (sym (tail_is line start))

-- ---- there are no more tokens than bytes

abbrev total : List (List ℕ) → ℕ
total [] = 0
total (part ∷ parts) = length part + total parts

total_more : (part : List ℕ) (parts : List (List ℕ)) → total (part ∷ parts) ≡ length part + total parts
total_more part parts = refl

total_onto : (x : ℕ) (parts : List (List ℕ)) → total (onto_first x parts) ≤ suc (total parts)
total_onto x [] = omega (arith, total_more (x ∷ []) [])
total_onto x (part ∷ parts) = omega (arith, total_more part parts, total_more (x ∷ part) parts)

split_long : (p : ℕ → Bool) (xs : List ℕ) → total (slice_split p xs) ≤ length xs
split_long p [] = let e : total (slice_split p []) ≡ 0 = omega (arith, total_more [] []) in omega (arith, e)
split_long p (x ∷ xs) = go (p x) refl (split_long p xs)
  where
    go : (b : Bool) → p x ≡ b → total (slice_split p xs) ≤ length xs → total (slice_split p (x ∷ xs)) ≤ length (x ∷ xs)
    go true is more = let e = ap total (slice_split-cons_yes p x xs is) in omega (arith, e, more, total_more [] (slice_split p xs))
    go false is more = let e = ap total (slice_split-cons_no p x xs is) in omega (arith, e, more, total_onto x (slice_split p xs))

words_fit : (parts : List (List ℕ)) → length (filter is_some_word parts) ≤ total parts
words_fit [] = omega arith
words_fit ([] ∷ parts) = let more = words_fit parts in omega (arith, more, total_more [] parts)
words_fit ((b ∷ part) ∷ parts) =
    let more = words_fit parts in
    let e = ap (λ s. length (cond s ((b ∷ part) ∷ filter is_some_word parts) (filter is_some_word parts))) (is_word b part) in
    omega (arith, more, e, total_more (b ∷ part) parts)

behind_fits : (found : List (List ℕ)) → length (behind_v found) ≤ length found
behind_fits [] = omega arith
behind_fits (first ∷ more) = go (bytes_eq first (codes "v"))
  where
    go : (b : Bool) → length (cond b more (first ∷ more)) ≤ length (first ∷ more)
    go true = omega arith
    go false = omega arith

line_fits : (line : List ℕ) → length (tokens_of_line line) ≤ length line
line_fits line = go (is_remark line)
  where
    go : (b : Bool) → length (cond b [] (behind_v (words line))) ≤ length line
    go true = omega arith
    go false = omega (arith, behind_fits (words line), words_fit (slice_split is_blank line), split_long is_blank line)

lines_fit : (lines : List (List ℕ)) → length (flat_map tokens_of_line lines) ≤ total lines
lines_fit [] = omega arith
lines_fit (line ∷ lines) = let more = lines_fit lines in omega (arith, more, length-append (tokens_of_line line) (flat_map tokens_of_line lines), line_fits line, total_more line lines)

pub tokens_fit : (bytes : List ℕ) → length (all_tokens bytes) ≤ length bytes
tokens_fit bytes = omega (arith, lines_fit (slice_split is_newline bytes), split_long is_newline bytes)
