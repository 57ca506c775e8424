-- What the masks that a language keeps are.
use Rattle.std.specs.Prelude.{ℕ, ◌+◌, ◌*◌, ◌<◌, ◌≡◌, ◌==◌, Bool, List, [], length, slice_index_or}
use Rattle.std.specs.Int.{bit_at}
use Rattle.rel_table.specs.Relation.{Relation}
use Rattle.language.specs.Pairs.{go_together, first_bound, second_bound, is_chain}
use Rattle.language.specs.declared.masks.PairBounds.{PairBounds}
use Rattle.language.specs.declared.masks.PairMasks.{PairMasks}

-- from a place on there is a mask for each of d values, whose bits tell which of d others go with
-- it
abbrev pub AreMasksFrom : ℕ → (ℕ → ℕ → Bool) → List ℕ → ℕ → Type 0
AreMasksFrom d together masks at = (x y : ℕ) → x < d → y < d →
    (bit_at (slice_index_or masks (at + x) 0) y == 1) ≡ together x y

-- those of one table
pub record ArePairMasksAt (d : ℕ) (r : Relation) (rows columns : List ℕ) (at : ℕ) (b : PairBounds) :
    Type 0 where
  pub by_row : AreMasksFrom d (go_together d r) rows at
  pub by_column : AreMasksFrom d (λ y x. go_together d r x y) columns at
  pub first : b.first ≡ first_bound d r
  pub second : b.second ≡ second_bound d r
  pub chain : b.is_chain ≡ is_chain d r

-- and of one table after another
pub record ArePairMasks (d : ℕ) (pairs : List Relation) (m : PairMasks) : Type 0 where
  pub rows_long : length m.rows.items ≡ 64 * length pairs
  pub columns_long : length m.columns.items ≡ 64 * length pairs
  pub bounds_long : length m.bounds.items ≡ length pairs
  pub at : (t : ℕ) (b : PairBounds) → t < length pairs →
      ArePairMasksAt d (slice_index_or pairs t []) m.rows.items m.columns.items
      (64 * t) (slice_index_or m.bounds.items t b)
