-- Lines and words, and the decimal numbers that words write.
use Rattle.std.specs.Prelude.{ℕ, ◌+◌, ◌==◌, nat_le, nat_lt, Bool, not, ◌&&◌, ◌||◌, List, length}
use Rattle.std.specs.Prelude.{take, drop, slice_index, position, Option, Some, None, if◌then◌else◌}
use Rattle.std.specs.Char.{is_digit}
use Rattle.std.specs.List.{list_all, slice_split}
use Rattle.std.specs.Option.{option_map, option_and_then}
use Rattle.std.specs.Str.Parse.{digits_value}

-- ---- Numbers

-- digits, of which the first is a 0 only where it stands alone
abbrev pub begins_well : List ℕ → Bool
begins_well digits =
    nat_lt 0 (length digits) && (not (slice_index digits 0 == 48) || (length digits == 1))

abbrev pub is_decimal : List ℕ → Bool
is_decimal digits = begins_well digits && list_all (λ b. is_digit b 10) digits

-- the number that digits write
abbrev pub decimal_in : List ℕ → Option ℕ
decimal_in digits = if is_decimal digits then Some (digits_value 10 digits) else None

-- Numbers that need more than 32 bits are taken for the greatest that doesn't.
abbrev pub capped : ℕ → ℕ
capped n = if nat_lt n 4294967296 then n else 4294967295

-- the same, where it is below a bound
abbrev pub decimal_below : ℕ → List ℕ → Option ℕ
decimal_below bound digits =
    option_and_then (λ n. if nat_lt n bound then Some n else None) (decimal_in digits)

-- a number below a bound, and not below the least
abbrev pub number_from : ℕ → ℕ → List ℕ → Option ℕ
number_from least bound digits =
    option_and_then (λ n. if nat_le least n then Some n else None) (decimal_below bound digits)

-- ---- Lines and words

-- what stands before and behind the first byte that is this, where there is one
abbrev pub cut_at : ℕ → List ℕ → Option (List ℕ × List ℕ)
cut_at byte bytes =
    option_map (λ i. (take i bytes, drop (i + 1) bytes)) (position (λ b. b == byte) bytes)

abbrev pub is_space : ℕ → Bool
is_space b = b == 32

-- what stands before, between and behind single spaces
abbrev pub words_in : List ℕ → List (List ℕ)
words_in line = slice_split is_space line
