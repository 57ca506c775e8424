-- How many questions there may be.
use Rattle.std.specs.Prelude.{ℕ, ◌+◌, ◌*◌, max, length, map, fold}
use Rattle.find_scope.specs.Bound.{log_up}
use Rattle.language.specs.Language.{Language, variable_count, candidates}

-- the greatest length of a scope
abbrev pub greatest_arity : Language → ℕ
greatest_arity l = fold max 0 (map length l.scopes)

-- at most so many answers where k candidates were learned
abbrev pub bound : Language → ℕ → ℕ
bound l k = length (candidates l) + k * (greatest_arity l * log_up (variable_count l) + 1)

-- at most so many answers at any time
abbrev pub most_answers : Language → ℕ
most_answers l = bound l (length l.scopes) + variable_count l * log_up (variable_count l) + 1
