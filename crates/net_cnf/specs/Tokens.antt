-- What a SAT solver's output names: literals, as decimal numbers with or without a sign.
use Rattle.std.specs.Prelude.{ℕ, ◌==◌, nat_le, nat_lt, Bool, not, ◌&&◌, ◌||◌, true, false, List, []}
use Rattle.std.specs.Prelude.{◌∷◌, length, drop, filter, filter_map, position, Option, Some, None}
use Rattle.std.specs.Prelude.{is_none, slice_index, if◌then◌else◌, codes}
use Rattle.std.specs.Char.{is_digit}
use Rattle.std.specs.List.{flat_map, list_all, slice_split, before_first}
use Rattle.std.specs.Option.{option_map}
use Rattle.std.specs.Str.{bytes_eq}
use Rattle.std.specs.Str.Parse.{digits_value}
use Rattle.net_cnf.specs.declared.literal.Literal.{Literal}

-- ---- Tokens

-- a line ends there, or where the bytes do
abbrev pub is_newline : ℕ → Bool
is_newline b = b == 10

-- spaces, tabs and carriage returns
abbrev pub is_blank : ℕ → Bool
is_blank b = (b == 32) || ((b == 9) || (b == 13))

-- what stands between blanks
abbrev pub words : List ℕ → List (List ℕ)
words line = filter (λ word. nat_lt 0 (length word)) (slice_split is_blank line)

-- a line that begins with `c`, `s`, `S` or `U` names nothing
abbrev pub is_remark : List ℕ → Bool
is_remark line = (slice_index line 0 == 99) ||
    ((slice_index line 0 == 115) || ((slice_index line 0 == 83) || (slice_index line 0 == 85)))

-- a first word `v` is passed over
abbrev pub behind_v : List (List ℕ) → List (List ℕ)
behind_v [] = []
behind_v (first ∷ more) = if bytes_eq first (codes "v") then more else first ∷ more

abbrev pub tokens_of_line : List ℕ → List (List ℕ)
tokens_of_line line = if is_remark line then [] else behind_v (words line)

abbrev pub all_tokens : List ℕ → List (List ℕ)
all_tokens bytes = flat_map tokens_of_line (slice_split is_newline bytes)

-- the list of literals ends with a 0
abbrev pub is_end : List ℕ → Bool
is_end token = bytes_eq token (codes "0")

-- the tokens that are read: those before the first 0
unfoldable pub tokens : List ℕ → List (List ℕ)
tokens bytes = before_first is_end (all_tokens bytes)

-- ---- Literals

-- digits, the first of which is no 0
abbrev pub is_number : List ℕ → Bool
is_number digits = nat_lt 0 (length digits) &&
    (not (slice_index digits 0 == 48) && list_all (λ b. is_digit b 10) digits)

-- the number that digits write, where it is one from 1 to the most
abbrev pub number_in : ℕ → List ℕ → Option ℕ
number_in most digits = if is_number digits && nat_le (digits_value 10 digits) most
    then Some (digits_value 10 digits) else None

abbrev pub signed : Bool → ℕ → Literal
signed positive number = record { number = number; positive = positive }

-- the literal of a token, where there are so many Booleans
unfoldable pub literal_in : ℕ → List ℕ → Option Literal
literal_in count token = if slice_index token 0 == 45 then option_map (signed false)
    (number_in count (drop 1 token)) else option_map (signed true) (number_in count token)

-- the first token that is no literal
abbrev pub bad_token : ℕ → List (List ℕ) → Option ℕ
bad_token count tokens = position (λ token. is_none (literal_in count token)) tokens

abbrev pub literals_in : ℕ → List (List ℕ) → List Literal
literals_in count tokens = filter_map (literal_in count) tokens
