-- The Booleans of a language: one for each variable and each value of its range.
use Rattle.std.specs.Prelude.{ℕ, ◌+◌, ◌==◌, ◌&&◌, Bool, List, map, Some}
use Rattle.std.specs.List.{flat_map, position_or_len}
use Rattle.assign.specs.Sets.{numbers}
use Rattle.assign.specs.Assignment.{Assignment, value_of, is_same_value}
use Rattle.language.specs.Language.{Language, variable_count, values_of}

-- that a variable has a value
pub record Boolean : Type 0 where
  pub variable : ℕ
  pub value : ℕ

abbrev pub boolean : ℕ → ℕ → Boolean
boolean v x = record { variable = v; value = x }

-- those of a variable
abbrev pub booleans_of : Language → ℕ → List Boolean
booleans_of l v = map (boolean v) (values_of l v)

-- all, in vocabulary order
abbrev pub booleans : Language → List Boolean
booleans l = flat_map (booleans_of l) (numbers (variable_count l))

abbrev pub is_boolean : Boolean → Boolean → Bool
is_boolean b c = (c.variable == b.variable) && (c.value == b.value)

-- a Boolean's number: its place among all, counted from 1
unfoldable pub boolean_number : Language → Boolean → ℕ
boolean_number l b = position_or_len (is_boolean b) (booleans l) + 1

-- whether the assignment gives the variable this value
abbrev pub gives : Assignment → Boolean → Bool
gives e b = is_same_value (value_of e b.variable) (Some b.value)

-- the truth values of the Booleans under an assignment
abbrev pub bits : Language → Assignment → List Bool
bits l e = map (gives e) (booleans l)
