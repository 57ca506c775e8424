-- Conditions on two variables, by the tables of their relations.
use Rattle.std.specs.Prelude.{ℕ, ◌<◌, ◌≡◌, ◌==◌, ◌⊎◌, Bool, true, List, [], ◌∷◌, length}
use Rattle.std.specs.Prelude.{slice_index_or, slice_set}
use Rattle.std.specs.Int.{bit_at}
use Rattle.assign.specs.Sets.{has}
use Rattle.rel_table.specs.Relation.{Relation}
use Rattle.rel_table.specs.Table.{TruthTable}
use Rattle.language.specs.Language.{Language}
use Rattle.language.specs.Ranges.{are_in}
use Rattle.propagators.specs.Families.{Family, Arc, is_wanted, is_not_empty}
use Rattle.propagators.specs.Supports.{continues}

-- a table of two variables, by its number
abbrev pub pair_at : Language → List Relation → ℕ → TruthTable
pair_at l pairs t =
    record { arity = 2; value_count = l.value_count; truth = slice_index_or pairs t [] }

-- what it says of two values, where it is to hold, or not to hold
abbrev pub by_table : Language → List Relation → ℕ → Bool → List ℕ → Bool
by_table l pairs t holding = continues (pair_at l pairs t) holding 0

-- one test says of the tuples on a scope that are within the ranges what another does
abbrev pub AgreeInside : Language → List ℕ → (List ℕ → Bool) → (List ℕ → Bool) → Type 0
AgreeInside l scope p q = (tuple : List ℕ) → length tuple ≡ length scope →
    are_in l.ranges scope tuple ≡ true → p tuple ≡ q tuple

-- whether by a relation's rows a tuple's first value and its second go together, or don't, where
-- that is wanted
abbrev pub goes_by : List ℕ → Bool → List ℕ → Bool
goes_by rows holding tuple = is_wanted holding
    (bit_at (slice_index_or rows (slice_index_or tuple 0 0) 0) (slice_index_or tuple 1 0) == 1)

-- a test of two values by masks: the rows of the first ones and the columns of the second ones
pub record AreSides (d : ℕ) (accepted : List ℕ → Bool) (holding : Bool) (rows columns : List ℕ) :
    Type 0 where
  pub row : (x y : ℕ) → x < d → y < d →
      accepted (x ∷ y ∷ []) ≡ is_wanted holding (bit_at (slice_index_or rows x 0) y == 1)
  pub column : (x y : ℕ) → x < d → y < d →
      accepted (x ∷ y ∷ []) ≡ is_wanted holding (bit_at (slice_index_or columns y 0) x == 1)

-- ---- One variable beside another that has one value

-- one member and no other
pub record IsOnly (xs : List ℕ) (x : ℕ) : Type 0 where
  pub there : has xs x ≡ true
  pub alone : (y : ℕ) → has xs y ≡ true → y ≡ x

-- this is the one value of a variable of the family
pub record IsValueOf (f : Family) (v x : ℕ) : Type 0 where
  pub known : v < length f
  pub only : IsOnly (slice_index_or f v []) x

-- of the condition's two variables one is v, and the other has one value, with which the values of
-- v go that pass
pub record IsBeside (d : ℕ) (a : Arc) (f : Family) (v : ℕ) (pass : ℕ → Bool) : Type 0 where
  pub other : ℕ
  pub value : ℕ
  pub only : IsOnly (slice_index_or f other []) value
  pub is : ((a.scope ≡ other ∷ v ∷ []) × ((y : ℕ) → y < d → a.accepted (value ∷ y ∷ []) ≡ pass y))
      ⊎ ((a.scope ≡ v ∷ other ∷ []) × ((y : ℕ) → y < d → a.accepted (y ∷ value ∷ []) ≡ pass y))

-- the variable has in g those of its values in f that pass, some of them, and the others have the
-- same
pub record IsNarrowed (v : ℕ) (pass : ℕ → Bool) (f g : Family) : Type 0 where
  pub values : (y : ℕ) → has (slice_index_or g v []) y ≡ true →
      (has (slice_index_or f v []) y ≡ true) × (pass y ≡ true)
  pub kept : (y : ℕ) → has (slice_index_or f v []) y ≡ true → pass y ≡ true →
      has (slice_index_or g v []) y ≡ true
  pub some : is_not_empty (slice_index_or g v []) ≡ true
  pub is : g ≡ slice_set f v (slice_index_or g v [])
