-- The words of a line that aren't taken yet.
use Rattle.std.specs.Prelude.{ℕ, List, [], Option, Some, None}
use Rattle.std.specs.Borrow.{Bor}
use Rattle.line_text.specs.declared.words.Words.{Words}
use Rattle.line_text.specs.Words.{words_in}

-- the words of what is left of a line, if anything is
abbrev pub words_of : Option (Bor (List ℕ)) → List (List ℕ)
words_of None = []
words_of (Some line) = words_in line.now

-- the words that aren't taken yet
abbrev pub words_left : Words → List (List ℕ)
words_left words = words_of words.rest
