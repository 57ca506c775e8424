-- A line is found at its newline, ends with the source, or is too long.
use Rattle.acq_io.proofs.Prelude.{◌≡◌, ◌≢◌, ℕ, ◌+◌, ◌<◌, ◌≤◌, true, false, ◌||◌, ◌==◌, nat_lt, nat_le, List, [], ◌∷◌, ◌++◌, length, take, drop, ap, sym, ◌∙◌, refl, arith, append-nil, Ok, Err, length-append, drop_at, take-append-le, LacksNewline, newline, before_newline, after_newline, has_newline, line_of, all_of, first_line_of, gathered, TooManyBytes}
use Rattle.std.specs.List.{position_or_len}
use Rattle.std.proofs.lemmas.Grind.{common_steps}
use Rattle.std.proofs.lemmas.Bool.Decides.{nat_tests}
use Rattle.std.proofs.lemmas.List.Folds.{list_any_none, list_any-append}
use Rattle.std.proofs.Math.Seq.{take-append-add, drop-append-add}
use Rattle.acq_io.specs.Laws.{LinesAreRead, CutLinesEnd, LongLinesAreRefused, FirstLinesAreRead, OnlyLinesAreRead, LongFirstLinesAreRefused}

is_no_newline : (b : ℕ) → b ≢ newline → (b == newline) ≡ false
is_no_newline b h = grind (arith, nat_tests, h)

LacksNewline-tail : (x : ℕ) (xs : List ℕ) → LacksNewline (x ∷ xs) → LacksNewline xs
LacksNewline-tail x xs h k d lt = let here = h (k + 1) d (grind (arith, common_steps)) in grind (arith, common_steps)

-- past bytes that are no newline, the first newline is that of the rest
position_past : (xs ys : List ℕ) → LacksNewline xs → position_or_len (λ b. b == newline) (xs ++ ys) ≡ length xs + position_or_len (λ b. b == newline) ys
position_past [] ys h = omega arith
position_past (x ∷ xs) ys h =
    let head : (x == newline) ≡ false = is_no_newline x (h 0 0 (grind (arith, common_steps))) in
    let rest = position_past xs ys (LacksNewline-tail x xs h) in rw (head, rest) (omega arith)

pub before_newline_past : (xs ys : List ℕ) → LacksNewline xs → before_newline (xs ++ ys) ≡ xs ++ before_newline ys
before_newline_past xs ys h = rw (position_past xs ys h) (take-append-add xs ys _)

pub after_newline_past : (xs ys : List ℕ) → LacksNewline xs → after_newline (xs ++ ys) ≡ after_newline ys
after_newline_past xs ys h =
    let at : position_or_len (λ b. b == newline) (xs ++ ys) + 1 ≡ length xs + (position_or_len (λ b. b == newline) ys + 1) = rw (position_past xs ys h) (omega arith) in
    ap (λ n. drop n (xs ++ ys)) at ∙ drop-append-add xs ys _

pub has_newline_past : (xs ys : List ℕ) → LacksNewline xs → has_newline (xs ++ ys) ≡ has_newline ys
has_newline_past xs ys h = list_any-append (λ b. b == newline) xs ys ∙ ap (λ found. found || has_newline ys) (list_any_none (λ b. b == newline) xs (λ k d lt. is_no_newline _ (h k d lt)))

-- the same where nothing else comes
pub before_newline_none : (xs : List ℕ) → LacksNewline xs → before_newline xs ≡ xs
before_newline_none xs h = ap before_newline (sym (append-nil xs)) ∙ before_newline_past xs [] h ∙ append-nil xs

pub has_newline_none : (xs : List ℕ) → LacksNewline xs → has_newline xs ≡ false
has_newline_none xs h = list_any_none (λ b. b == newline) xs (λ k d lt. is_no_newline _ (h k d lt))

not_more : (a b : ℕ) → b ≤ a → nat_lt a b ≡ false
not_more a b h = grind (arith, nat_tests)

is_more : (a b : ℕ) → a < b → nat_lt a b ≡ true
is_more a b h = grind (arith, nat_tests)

is_at_most : (a b : ℕ) → a ≤ b → nat_le a b ≡ true
is_at_most a b h = grind (arith, nat_tests)

is_above : (a b : ℕ) → b < a → nat_le a b ≡ false
is_above a b h = grind (arith, nat_tests)

-- one byte more than the most, and none is a newline
before_newline_long : (piece rest : List ℕ) (most : ℕ) → LacksNewline piece → length piece ≡ most + 1 → most < length (before_newline (piece ++ rest))
before_newline_long piece rest most h full =
    let long : length (before_newline (piece ++ rest)) ≡ length (piece ++ before_newline rest) = ap length (before_newline_past piece rest h) in
    omega (arith, long, length-append piece (before_newline rest))

pub line_of-line : LinesAreRead
unfolding line_of
line_of-line line rest h short =
    let before : before_newline (line ++ newline ∷ rest) ≡ line = before_newline_past line (newline ∷ rest) h ∙ append-nil line in
    let after : after_newline (line ++ newline ∷ rest) ≡ rest = after_newline_past line (newline ∷ rest) h in
    let found : has_newline (line ++ newline ∷ rest) ≡ true = has_newline_past line (newline ∷ rest) h in
    rw (before, after, found, not_more 256 (length line) short) refl

pub line_of-cut : CutLinesEnd
unfolding line_of
line_of-cut line h short = rw (before_newline_none line h, has_newline_none line h, not_more 256 (length line) short) refl

pub line_of-long : LongLinesAreRefused
unfolding line_of
line_of-long piece rest h full =
    let front : take 256 (piece ++ rest) ≡ take 256 piece = take-append-le 256 piece rest (omega arith) in
    let back : drop 257 (piece ++ rest) ≡ rest = drop_at piece rest 257 full in
    rw (is_more 256 _ (before_newline_long piece rest 256 h full), front, back) refl

pub first_line_of-line : FirstLinesAreRead
unfolding first_line_of
first_line_of-line most line rest h few =
    let before : before_newline (line ++ newline ∷ rest) ≡ line = before_newline_past line (newline ∷ rest) h ∙ append-nil line in
    let after : after_newline (line ++ newline ∷ rest) ≡ rest = after_newline_past line (newline ∷ rest) h in
    rw (before, after, is_at_most (length line) most few) refl

pub first_line_of-only : OnlyLinesAreRead
unfolding first_line_of
first_line_of-only most line h few =
    let after : after_newline line ≡ [] = ap after_newline (sym (append-nil line)) ∙ after_newline_past line [] h in
    rw (before_newline_none line h, after, is_at_most (length line) most few) refl

pub first_line_of-long : LongFirstLinesAreRefused
unfolding first_line_of
first_line_of-long most piece rest h full =
    let back : drop (most + 1) (piece ++ rest) ≡ rest = drop_at piece rest (most + 1) full in
    rw (is_above _ most (before_newline_long piece rest most h full), back) refl

pub all_of-few : (most : ℕ) (all : List ℕ) → length all ≤ most → all_of most all ≡ gathered (Ok all) []
unfolding all_of
all_of-few most all few = rw (is_at_most (length all) most few) refl

pub all_of-many : (most : ℕ) (piece rest : List ℕ) → length piece ≡ most + 1 → all_of most (piece ++ rest) ≡ gathered (Err TooManyBytes) rest
unfolding all_of
all_of-many most piece rest full =
    let many : most < length (piece ++ rest) = omega (arith, length-append piece rest) in
    let back : drop (most + 1) (piece ++ rest) ≡ rest = drop_at piece rest (most + 1) full in
    rw (is_above _ most many, back) refl
