-- Reading to the end, and reading the first line, into memory.
use Rattle.std.specs.Prelude.{◌≡◌, ℕ, ◌+◌, ◌≤◌, nat_le, if◌then◌else◌, List, [], drop, length}
use Rattle.std.specs.Prelude.{Option, Result, Ok, Err}
use Rattle.std.specs.Option.{option_map}
use Rattle.acq_io.specs.Streams.{Takes}
use Rattle.acq_io.specs.Lines.{before_newline, after_newline, LacksNewline}
use Rattle.acq_io.specs.declared.whole.AllFault.{AllFault}
use Rattle.acq_io.specs.declared.whole.AllFault.TheVariants.{TooLong}

-- what such a reading gives: the bytes or a refusal, and the bytes that are left
pub record Gathered : Type 0 where
  pub got : Result (List ℕ) AllFault
  pub rest : List ℕ

abbrev pub gathered : Result (List ℕ) AllFault → List ℕ → Gathered
gathered got rest = record { got = got; rest = rest }

-- all the bytes, if they are at most so many; else one more than so many is taken
unfoldable pub all_of : ℕ → List ℕ → Gathered
all_of most bytes =
    if nat_le (length bytes) most then gathered (Ok bytes) []
    else gathered (Err TooLong) (drop (most + 1) bytes)

-- the bytes before the first newline or the end, if they are at most so many; else one more than so
-- many is taken
unfoldable pub first_line_of : ℕ → List ℕ → Gathered
first_line_of most bytes =
    if nat_le (length (before_newline bytes)) most
    then gathered (Ok (before_newline bytes)) (after_newline bytes)
    else gathered (Err TooLong) (drop (most + 1) bytes)

-- where the source tells its bytes, `f` gives this of them, and leaves what it tells now
abbrev pub Gives : (List ℕ → Gathered) → Option (List ℕ) → Option (List ℕ) →
    Result (List ℕ) AllFault → Type 0
Gives f before now got = option_map f before ≡ option_map (gathered got) now

-- where the source tells its bytes, at most so many were taken
abbrev pub TakesAtMost : ℕ → Option (List ℕ) → Option (List ℕ) → Type 0
TakesAtMost most before now = (piece : List ℕ) × (length piece ≤ most) × Takes before now piece

-- and none of them was a newline
abbrev pub TakesOfLine : ℕ → Option (List ℕ) → Option (List ℕ) → Type 0
TakesOfLine most before now = (piece : List ℕ) × (length piece ≤ most) × LacksNewline piece
    × Takes before now piece
