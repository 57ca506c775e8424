-- Which relations on a scope accept a tuple.
use Rattle.std.specs.Prelude.{ℕ, ◌==◌, ◌≡◌, ◌≢◌, ◌+◌, ◌<◌, ◌≤◌, ◌^◌, true, false, List, [], ◌∷◌}
use Rattle.std.specs.Prelude.{length, slice_index_or}
use Rattle.std.specs.Int.{bit_at}
use Rattle.std.specs.List.{filter}
use Rattle.assign.specs.Sets.{numbers, ones_of}
use Rattle.rel_table.specs.Relation.{tuple_at}
use Rattle.language.specs.Language.{Language, scope_at, relations_on}
use Rattle.language.specs.Ranges.{are_in}
use Rattle.bias_store.specs.declared.tables.TheConstants.{NO_TABLE}

-- the relations on the scope of this number that accept the tuple at a place, by number, rising
abbrev pub accepting_on : Language → ℕ → ℕ → List ℕ
accepting_on l s place =
    filter (λ r. slice_index_or (slice_index_or (relations_on l s) r []) place false)
    (numbers (length (relations_on l s)))

-- how many places a scope's table has
abbrev pub places_on : Language → ℕ → ℕ
places_on l s = l.value_count ^ length (scope_at l s)

-- the mask is that of the relations that accept the tuple at a place
abbrev pub Accepts : Language → ℕ → ℕ → ℕ → Type 0
Accepts l s place mask = ones_of mask ≡ accepting_on l s place

-- for each scope where its table begins, or that it has none, and the tables: a mask for each
-- place; for each scope a later one, or their number; and for each scope where its row ends
pub record Accepting : Type 0 where
  pub first : List ℕ
  pub masks : List ℕ
  pub next : List ℕ
  pub rows : List ℕ

-- the mask at a place of the table that begins here
abbrev pub mask_in : List ℕ → ℕ → ℕ → ℕ
mask_in masks begin place = slice_index_or masks (begin + place) 0

-- for each scope from low on a later one, or the number of scopes: up to there each has the same
-- first variable
pub record AreRunsFrom (l : Language) (next : List ℕ) (low : ℕ) : Type 0 where
  pub long : length next ≡ length l.scopes
  pub ahead : (s : ℕ) → low ≤ s → s < length l.scopes → s < slice_index_or next s 0
  pub within : (s : ℕ) → low ≤ s → s < length l.scopes → slice_index_or next s 0 ≤ length l.scopes
  pub alike : (s k : ℕ) → low ≤ s → s < length l.scopes → s ≤ k → k < slice_index_or next s 0 →
      slice_index_or (scope_at l k) 0 0 ≡ slice_index_or (scope_at l s) 0 0

-- the first variable of the scope of this number, and the second one
abbrev pub first_of : Language → ℕ → ℕ
first_of l s = slice_index_or (scope_at l s) 0 0

abbrev pub second_of : Language → ℕ → ℕ
second_of l s = slice_index_or (scope_at l s) 1 0

-- from a scope to an end the scopes have two variables and one table: the same first variable, and
-- second ones that follow one another
pub record IsRow (l : Language) (tables : List ℕ) (s end : ℕ) : Type 0 where
  pub pairs : (j : ℕ) → s + j < end → scope_at l (s + j) ≡ first_of l s ∷ (second_of l s + j) ∷ []
  pub alike : (j : ℕ) → s + j < end → slice_index_or tables (s + j) 0 ≡ slice_index_or tables s 0
  pub some : s < end → slice_index_or tables s 0 ≢ NO_TABLE

-- for each scope from low on where a row ends that begins there, if there is one
pub record AreRowsFrom (l : Language) (tables rows : List ℕ) (low : ℕ) : Type 0 where
  pub long : length rows ≡ length l.scopes
  pub within : (s : ℕ) → low ≤ s → s < length l.scopes → slice_index_or rows s 0 ≤ length l.scopes
  pub row : (s : ℕ) → low ≤ s → s < length l.scopes → IsRow l tables s (slice_index_or rows s 0)

-- the scope's table begins here: for each place within the ranges the relations that accept the
-- tuple there
pub record IsTableOf (l : Language) (s : ℕ) (masks : List ℕ) (begin : ℕ) : Type 0 where
  pub inside : begin + places_on l s ≤ length masks
  pub within : (place : ℕ) → place < places_on l s →
      are_in l.ranges (scope_at l s) (tuple_at l.value_count (length (scope_at l s)) place) ≡ true →
      Accepts l s place (mask_in masks begin place)

-- each scope of the language has such a table, or none
pub record IsAcceptingOf (l : Language) (a : Accepting) : Type 0 where
  pub scopes : length a.first ≡ length l.scopes
  pub few : (s : ℕ) → s < length l.scopes → length (relations_on l s) ≤ 64
  pub tables : (s : ℕ) → s < length l.scopes → slice_index_or a.first s 0 ≢ NO_TABLE →
      IsTableOf l s a.masks (slice_index_or a.first s 0)
  pub runs : AreRunsFrom l a.next 0
  pub rows : AreRowsFrom l a.first a.rows 0

-- the truth values of the relations on a scope from a place on, a word for each relation: bit y is
-- one where it accepts the tuple y places further
abbrev pub AreRowsAt : Language → ℕ → ℕ → List ℕ → Type 0
AreRowsAt l s place rows = (r y : ℕ) → r < length (relations_on l s) →
    y < l.value_count → (bit_at (slice_index_or rows r 0) y == 1)
    ≡ slice_index_or (slice_index_or (relations_on l s) r []) (place + y) false

-- there are as many masks more, behind other ones, and each is right of its place
pub record AreAdded (IsRight : ℕ → ℕ → Type 0) (before masks : List ℕ) (count : ℕ) : Type 0 where
  pub long : length masks ≡ length before + count
  pub same : (i : ℕ) → i < length before → slice_index_or masks i 0 ≡ slice_index_or before i 0
  pub here : (p : ℕ) → p < count → IsRight p (mask_in masks (length before) p)
