-- Tables of two variables in falling order within the ranges, which is told row by row.
use Rattle.std.specs.Prelude.{ℕ, ◌≡◌, ◌≢◌, ◌<◌, ◌≤◌, ◌==◌, Bool, true, false, Option, Some, None}
use Rattle.std.specs.Int.{bit_at}
use Rattle.rel_table.specs.Relation.{Relation, is_above}
use Rattle.language.specs.declared.ranges.ValueRange.{ValueRange}
use Rattle.language.specs.Ranges.{is_in}

-- the mask tells of each of d values whether it is one of the range, and has no other ones
pub record IsRangeMask (d : ℕ) (range : ValueRange) (mask : ℕ) : Type 0 where
  pub low : (y : ℕ) → y < d → (bit_at mask y == 1) ≡ is_in range y
  pub high : (y : ℕ) → d ≤ y → (bit_at mask y == 1) ≡ false

-- the least bit, of those of a third mask, that is in one of two masks alone, and whether the first
-- has it
pub record IsFirstBit (one other among : ℕ) (on : Bool) : Type 0 where
  pub at : ℕ
  pub inside : (bit_at among at == 1) ≡ true
  pub before : (y : ℕ) → y < at → (bit_at among y == 1) ≡ true →
      (bit_at one y == 1) ≡ (bit_at other y == 1)
  pub differ : (bit_at one at == 1) ≢ (bit_at other at == 1)
  pub is : on ≡ (bit_at one at == 1)

-- whether the first of two masks has this bit, if there is one
pub record TellsFirstBit (one other among : ℕ) (found : Option Bool) : Type 0 where
  pub none : found ≡ None → (y : ℕ) → (bit_at among y == 1) ≡ true →
      (bit_at one y == 1) ≡ (bit_at other y == 1)
  pub some : (on : Bool) → found ≡ Some on → IsFirstBit one other among on

-- whether the first of two relations comes before the other, if they aren't the same
pub record TellsOrder (r q : Relation) (found : Option Bool) : Type 0 where
  pub none : found ≡ None → r ≡ q
  pub before : found ≡ Some true → is_above r q ≡ true
  pub behind : found ≡ Some false → is_above q r ≡ true
