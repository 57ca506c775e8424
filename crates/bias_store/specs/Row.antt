-- What a question violates in a row of scopes.
use Rattle.std.specs.Prelude.{ℕ, ◌≡◌, ◌≢◌, ◌+◌, ◌^◌, ◌<◌, ◌≤◌, true, false, not, nat_eq, is_some}
use Rattle.std.specs.Prelude.{List, [], Some, length, slice_index_or}
use Rattle.std.specs.List.{filter}
use Rattle.assign.specs.Sets.{has, ones_of}
use Rattle.assign.specs.Assignment.{Assignment, value_of}
use Rattle.std.specs.Int.{bit_at}

-- the scopes of a row, one after another from one on, have these relations
pub record IsRowOf (masks : List ℕ) (first : ℕ) (relations : List ℕ) : Type 0 where
  pub within : first + length relations ≤ length masks
  pub same : (place : ℕ) → place < length relations →
      slice_index_or relations place 0 ≡ slice_index_or masks (first + place) 0

-- of the relations at a place of a row, those that don't accept a value of the second variable
-- there
abbrev pub violated_at : List ℕ → List ℕ → ℕ → ℕ → List ℕ
violated_at relations accepting place value =
    filter (λ r. not (has (ones_of (slice_index_or accepting value 0)) r))
    (ones_of (slice_index_or relations place 0))

-- the question violates none at the first places of a row
abbrev pub AreNoneIn : Assignment → List ℕ → List ℕ → ℕ → ℕ → Type 0
AreNoneIn q relations accepting second places = (place value : ℕ) → place < places →
    value_of q (second + place) ≡ Some value → violated_at relations accepting place value ≡ []

-- the question violates none at the first places of a row, nor at so many more where the bit of a
-- word is zero
pub record AreNoneBut (q : Assignment) (relations accepting : List ℕ) (second from count word : ℕ) :
    Type 0 where
  pub before : AreNoneIn q relations accepting second from
  pub passed : (j value : ℕ) → j < count → nat_eq (bit_at word j) 1 ≡ false →
      value_of q (second + (from + j)) ≡ Some value →
      violated_at relations accepting (from + j) value ≡ []

-- the first place of a row at which the question violates some, and those
pub record IsFirstIn (q : Assignment) (relations accepting : List ℕ) (second place violated : ℕ) :
    Type 0 where
  pub within : place < length relations
  pub none : AreNoneIn q relations accepting second place
  pub asked : is_some (value_of q (second + place)) ≡ true
  pub here : (value : ℕ) → value_of q (second + place) ≡ Some value →
      ones_of violated ≡ violated_at relations accepting place value
  pub some : violated ≢ 0
  pub small : violated < 2 ^ 64
