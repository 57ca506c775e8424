-- Reading a line.
use Rattle.std.specs.Prelude.{◌≡◌, ◌≢◌, ℕ, ◌==◌, nat_lt, Bool, if◌then◌else◌, List, [], take, drop}
use Rattle.std.specs.Prelude.{length, All, Option}
use Rattle.std.specs.Option.{option_map}
use Rattle.std.specs.List.{list_any, before_first, after_first}
use Rattle.acq_io.specs.Streams.{Takes}
use Rattle.acq_io.specs.declared.lines.LineGot.{LineGot}
use Rattle.acq_io.specs.declared.lines.LineGot.TheVariants.{Line, End, TooLong, Fault}

-- the byte that ends a line
abbrev pub newline : ℕ
newline = 10

abbrev pub LacksNewline : List ℕ → Type 0
LacksNewline = All (λ b. b ≢ newline)

abbrev pub has_newline : List ℕ → Bool
has_newline = list_any (λ b. b == newline)

-- the bytes before the first newline, or all of them
abbrev pub before_newline : List ℕ → List ℕ
before_newline = before_first (λ b. b == newline)

-- the bytes after the first newline, if any
abbrev pub after_newline : List ℕ → List ℕ
after_newline = after_first (λ b. b == newline)

-- what reading a line gives: the answer, what the place for the line then holds, and the bytes that
-- are left
pub record Lined : Type 0 where
  pub got : LineGot
  pub line : List ℕ
  pub rest : List ℕ

abbrev pub lined : LineGot → List ℕ → List ℕ → Lined
lined got line rest = record { got = got; line = line; rest = rest }

-- a line has at most 256 bytes and a newline; a longer one is given up once its 257th byte is taken
unfoldable pub line_of : List ℕ → Lined
line_of bytes =
    if nat_lt 256 (length (before_newline bytes))
    then lined TooLong (take 256 bytes) (drop 257 bytes)
    else (if has_newline bytes then lined Line (before_newline bytes) (after_newline bytes)
    else lined End bytes [])

-- where the source tells its bytes, `line_of` gives this answer and this line of them; after a
-- fault the line is what was taken
abbrev pub ReadsLine : Option (List ℕ) → Option (List ℕ) → List ℕ → LineGot → Type 0
ReadsLine before now line Line = option_map line_of before ≡ option_map (lined Line line) now
ReadsLine before now line End = option_map line_of before ≡ option_map (lined End line) now
ReadsLine before now line TooLong = option_map line_of before ≡ option_map (lined TooLong line) now
ReadsLine before now line Fault = Takes before now line
