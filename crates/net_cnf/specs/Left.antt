-- The tokens that are left.
use Rattle.std.specs.Prelude.{ℕ, List, ◌++◌}
use Rattle.net_cnf.specs.Tokens.{words, all_tokens}
use Rattle.net_cnf.specs.declared.tokens.Tokens.{Tokens}

-- the words of a line, and the tokens of the lines behind it
abbrev pub tokens_left : Tokens → List (List ℕ)
tokens_left t = words t.line.now ++ all_tokens t.lines.now
