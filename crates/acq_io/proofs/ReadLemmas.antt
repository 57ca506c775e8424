-- What is read of a source that may tell its bytes: `told` when the call began, `before` the last piece, and `now`.
use Rattle.acq_io.proofs.Prelude.{◌≡◌, ◌≢◌, ℕ, ◌+◌, ◌≤◌, List, [], ◌∷◌, ◌++◌, length, ap, ◌∙◌, append_assoc, arith, Option, Ok, Err, option_map, length-append, length_push, take_at, All-push, Takes, WasEmpty, LacksNewline, newline, line_of, lined, Gives, all_of, first_line_of, gathered, TooManyBytes}
use Rattle.acq_io.specs.declared.lines.LineGot.TheVariants.{Line, End, TooLong}
use Rattle.acq_io.proofs.TakenLemmas.{takes_on, gives_on, gives_end}
use Rattle.acq_io.proofs.LineLemmas.{line_of-line, line_of-cut, line_of-long, first_line_of-line, first_line_of-only, first_line_of-long, all_of-few, all_of-many}

more_of_line : (line : List ℕ) (b : ℕ) → LacksNewline line → b ≢ newline → LacksNewline (line ++ b ∷ [])
more_of_line line b h other = All-push (λ x. x ≢ newline) line b h other

pub reads_line : (told before now : Option (List ℕ)) (line : List ℕ) → Takes told before line → Takes before now (newline ∷ []) → LacksNewline line → length line ≤ 256 → option_map line_of told ≡ option_map (lined Line line) now
reads_line told before now line taken last one_line short =
    gives_on line_of (lined Line line) told now (line ++ newline ∷ []) (takes_on told before now line (newline ∷ []) taken last)
    (λ rest. ap line_of (append_assoc line (newline ∷ []) rest) ∙ line_of-line line rest one_line short)

pub reads_end : (told before now : Option (List ℕ)) (line : List ℕ) → Takes told before line → Takes before now [] → WasEmpty before → LacksNewline line → length line ≤ 256 → option_map line_of told ≡ option_map (lined End line) now
reads_end told before now line taken last empty one_line short =
    gives_end line_of (lined End line) told before now line taken last empty (line_of-cut line one_line short)

pub reads_too_long : (told before now : Option (List ℕ)) (line : List ℕ) (b : ℕ) → Takes told before line → Takes before now (b ∷ []) → LacksNewline line → b ≢ newline → length line ≡ 256 → option_map line_of told ≡ option_map (lined TooLong line) now
reads_too_long told before now line b taken last one_line other full =
    let long : length (line ++ b ∷ []) ≡ 257 = length_push line b ∙ ap (λ n. n + 1) full in
    gives_on line_of (lined TooLong line) told now (line ++ b ∷ []) (takes_on told before now line (b ∷ []) taken last)
    (λ rest. line_of-long (line ++ b ∷ []) rest (more_of_line line b one_line other) long ∙ ap (λ front. lined TooLong front rest) (take_at line (b ∷ []) 256 full))

pub gives_line : (most : ℕ) (told before now : Option (List ℕ)) (line : List ℕ) → Takes told before line → Takes before now (newline ∷ []) → LacksNewline line → length line ≤ most → Gives (first_line_of most) told now (Ok line)
gives_line most told before now line taken last one_line few =
    gives_on (first_line_of most) (gathered (Ok line)) told now (line ++ newline ∷ []) (takes_on told before now line (newline ∷ []) taken last)
    (λ rest. ap (first_line_of most) (append_assoc line (newline ∷ []) rest) ∙ first_line_of-line most line rest one_line few)

pub gives_only_line : (most : ℕ) (told before now : Option (List ℕ)) (line : List ℕ) → Takes told before line → Takes before now [] → WasEmpty before → LacksNewline line → length line ≤ most → Gives (first_line_of most) told now (Ok line)
gives_only_line most told before now line taken last empty one_line few =
    gives_end (first_line_of most) (gathered (Ok line)) told before now line taken last empty (first_line_of-only most line one_line few)

pub gives_long_line : (most : ℕ) (told before now : Option (List ℕ)) (line : List ℕ) (b : ℕ) → Takes told before line → Takes before now (b ∷ []) → LacksNewline line → b ≢ newline → length line ≡ most → Gives (first_line_of most) told now (Err TooManyBytes)
gives_long_line most told before now line b taken last one_line other full =
    let long : length (line ++ b ∷ []) ≡ most + 1 = length_push line b ∙ ap (λ n. n + 1) full in
    gives_on (first_line_of most) (gathered (Err TooManyBytes)) told now (line ++ b ∷ []) (takes_on told before now line (b ∷ []) taken last)
    (λ rest. first_line_of-long most (line ++ b ∷ []) rest (more_of_line line b one_line other) long)

pub gives_all : (most : ℕ) (told before now : Option (List ℕ)) (all : List ℕ) → Takes told before all → Takes before now [] → WasEmpty before → length all ≤ most → Gives (all_of most) told now (Ok all)
gives_all most told before now all taken last empty few =
    gives_end (all_of most) (gathered (Ok all)) told before now all taken last empty (all_of-few most all few)

pub gives_too_many : (most : ℕ) (told before now : Option (List ℕ)) (all piece : List ℕ) → Takes told before all → Takes before now piece → length all + length piece ≡ most + 1 → Gives (all_of most) told now (Err TooManyBytes)
gives_too_many most told before now all piece taken last full =
    gives_on (all_of most) (gathered (Err TooManyBytes)) told now (all ++ piece) (takes_on told before now all piece taken last)
    (λ rest. all_of-many most (all ++ piece) rest (omega (arith, length-append all piece)))
