-- Laws of reading lines, over the definitions alone.
use Rattle.std.specs.Prelude.{◌≡◌, ℕ, ◌+◌, ◌≤◌, List, [], ◌∷◌, ◌++◌, take, length, Ok, Err}
use Rattle.acq_io.specs.Lines.{LacksNewline, newline, line_of, lined}
use Rattle.acq_io.specs.Whole.{first_line_of, gathered}
use Rattle.acq_io.specs.declared.lines.LineGot.TheVariants.{Line, End, TooLong}
use Rattle.acq_io.specs.declared.whole.AllFault.TheVariants.{TooLong as TooManyBytes}

-- a line with its newline is read, and what follows it is left
abbrev pub LinesAreRead : Type 0
LinesAreRead = (line rest : List ℕ) → LacksNewline line → length line ≤ 256 →
    line_of (line ++ newline ∷ rest) ≡ lined Line line rest

-- a line that the source cuts off is no line
abbrev pub CutLinesEnd : Type 0
CutLinesEnd = (line : List ℕ) → LacksNewline line → length line ≤ 256 →
    line_of line ≡ lined End line []

-- 257 bytes without a newline are too long for a line, and what follows them is left
abbrev pub LongLinesAreRefused : Type 0
LongLinesAreRefused = (piece rest : List ℕ) → LacksNewline piece → length piece ≡ 257 →
    line_of (piece ++ rest) ≡ lined TooLong (take 256 piece) rest

-- a first line of at most so many bytes is read, and what follows its newline is left
abbrev pub FirstLinesAreRead : Type 0
FirstLinesAreRead = (most : ℕ) (line rest : List ℕ) → LacksNewline line → length line ≤ most →
    first_line_of most (line ++ newline ∷ rest) ≡ gathered (Ok line) rest

-- a first line needs no newline
abbrev pub OnlyLinesAreRead : Type 0
OnlyLinesAreRead = (most : ℕ) (line : List ℕ) → LacksNewline line → length line ≤ most →
    first_line_of most line ≡ gathered (Ok line) []

-- one byte more than so many without a newline is refused, and what follows is left
abbrev pub LongFirstLinesAreRefused : Type 0
LongFirstLinesAreRefused = (most : ℕ) (piece rest : List ℕ) → LacksNewline piece →
    length piece ≡ most + 1 → first_line_of most (piece ++ rest) ≡ gathered (Err TooManyBytes) rest
