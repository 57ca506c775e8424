-- What an answer line says.
use Rattle.std.specs.Prelude.{ℕ, ◌-◌, List, take, drop, length, Bool, true, false, ◌||◌, ◌&&◌, ◌==◌}
use Rattle.std.specs.Prelude.{if◌then◌else◌, nat_lt, Option, Some, None, codes}
use Rattle.std.specs.List.{prefix_len, suffix_len}
use Rattle.std.specs.Str.{bytes_eq}
use Rattle.target_oracle.specs.Turns.{Reply, Said, TakenBack, Stopped}

-- spaces, tabs and carriage returns
abbrev pub is_blank : ℕ → Bool
is_blank b = (b == 32) || ((b == 9) || (b == 13))

abbrev pub trimmed_before : List ℕ → List ℕ
trimmed_before line = drop (prefix_len is_blank line) line

abbrev pub trimmed_after : List ℕ → List ℕ
trimmed_after line = take (length line - suffix_len is_blank line) line

-- the line without the blanks at its two ends
unfoldable pub trimmed : List ℕ → List ℕ
trimmed line = trimmed_after (trimmed_before line)

-- What a word says to question number k, if it is an answer. An answer is taken back only where one
-- stands: where k is above 1.
unfoldable pub reply_of : ℕ → List ℕ → Option Reply
reply_of k word =
    if bytes_eq word (codes "yes") || bytes_eq word (codes "y") then Some (Said true)
    else (if bytes_eq word (codes "no") || bytes_eq word (codes "n") then Some (Said false)
    else (if bytes_eq word (codes "stop") then Some Stopped
    else (if bytes_eq word (codes "back") && nat_lt 1 k then Some TakenBack
    else None)))
