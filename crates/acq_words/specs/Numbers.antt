-- Numbers in the values of options.
use Rattle.std.specs.Prelude.{◌≡◌, ℕ, ◌≤◌, List, Some}
use Rattle.std.specs.Str.Parse.{IsNumeral, digits_value, without_leading_plus}
use Rattle.clap.specs.Words.{Row, Text, one_of}
use Rattle.acq_words.specs.Options.{Name, budget, id_of, number}

-- the number that the digits of a text say
abbrev pub digits_number : Text → ℕ
digits_number text = digits_value 10 (without_leading_plus text)

abbrev pub IsNumberIn : (low high : ℕ) → Text → Type 0
IsNumberIn low high text = IsNumeral 10 (without_leading_plus text) × (low ≤ digits_number text)
    × (digits_number text ≤ high)

abbrev pub HasNumber : Name → (low high : ℕ) → List Row → Type 0
HasNumber name low high rows = (text : Text) → one_of (id_of name) rows ≡ Some text →
    IsNumberIn low high text

-- the options that take numbers have numbers within their limits
pub record HaveNumbers (rows : List Row) : Type 0 where
  pub budget_in : HasNumber budget 1 1000000000 rows
  pub number_in : HasNumber number 0 4294967295 rows
