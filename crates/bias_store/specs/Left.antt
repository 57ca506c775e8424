-- Scopes that have relations, by words.
use Rattle.std.specs.Prelude.{ℕ, ◌≡◌, ◌+◌, ◌<◌, ◌^◌, true, false, nat_eq, List, slice_index_or}
use Rattle.std.specs.Int.{bit_at}

-- of so many scopes from one on, bit j of the word is one at each that has relations, and at none
-- that is further
pub record IsLeftFrom (masks : List ℕ) (from count word : ℕ) : Type 0 where
  pub within : (j : ℕ) → nat_eq (bit_at word j) 1 ≡ true → j < count
  pub passed : (j : ℕ) → j < count → nat_eq (bit_at word j) 1 ≡ false →
      slice_index_or masks (from + j) 0 ≡ 0
  pub small : word < 2 ^ 64
