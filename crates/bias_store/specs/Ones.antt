-- The ones of a word.
use Rattle.std.specs.Prelude.{ℕ, ◌≡◌, ◌<◌, ◌^◌, bit_and}
use Rattle.std.specs.Int.{bit_at, bit_not, w64}

-- the least one of a word is at this place, and this is the word without it
pub record IsLeastOne (word at others : ℕ) : Type 0 where
  pub within : at < 64
  pub one : bit_at word at ≡ 1
  pub before : (k : ℕ) → k < at → bit_at word k ≡ 0
  pub without : others ≡ bit_and word (bit_not w64 (2 ^ at))
