-- What words stand for: a list of truth values, 64 to a word.
use Rattle.std.specs.Prelude.{◌≡◌, ◌≢◌, ℕ, ◌/◌, ◌%◌, ◌^◌, ◌<◌, ◌≤◌, List, length, map}
use Rattle.std.specs.Prelude.{slice_index_or, Bool, false, nat_eq, ◌⊎◌}
use Rattle.std.specs.List.{range_with_len}
use Rattle.std.specs.Int.{bit_at, div_ceil}

-- whether truth value number `at` is true: it is bit at % 64 of word at / 64, and false past the
-- last word
unfoldable pub is_marked : List ℕ → ℕ → Bool
is_marked words at = nat_eq (bit_at (slice_index_or words (at / 64) 0) (at % 64)) 1

-- the first so many truth values
unfoldable pub values_of : List ℕ → ℕ → List Bool
values_of words count = map (is_marked words) (range_with_len 0 count)

-- words for so many truth values, and no one beyond them
pub record IsPacked (words : List ℕ) (count : ℕ) : Type 0 where
  pub long : length words ≡ div_ceil count 64
  pub fits : (k : ℕ) → slice_index_or words k 0 < 2 ^ 64
  pub clear : (at : ℕ) → count ≤ at → is_marked words at ≡ false

-- at the least bit in which two words differ, the first one is so
pub record DifferFirst (x y : ℕ) (on : Bool) : Type 0 where
  pub at : ℕ
  pub within : at < 64
  pub before : (k : ℕ) → k < at → bit_at x k ≡ bit_at y k
  pub differ : bit_at x at ≢ bit_at y at
  pub is : on ≡ nat_eq (bit_at x at) 1

-- at the first word in which two lists of words differ, the first one's least such bit is so
pub record DifferAt (xs ys : List ℕ) (on : Bool) : Type 0 where
  pub at : ℕ
  pub within : at < length xs
  pub before : (k : ℕ) → k < at → slice_index_or xs k 0 ≡ slice_index_or ys k 0
  pub first : DifferFirst (slice_index_or xs at 0) (slice_index_or ys at 0) on

-- whether the first list of words has a one where the two first differ; of equal lists neither has
abbrev pub Compares : List ℕ → List ℕ → Bool → Type 0
Compares xs ys on = ((xs ≡ ys) × (on ≡ false)) ⊎ DifferAt xs ys on
