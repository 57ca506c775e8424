-- Which values of some sets an accepted tuple goes through.
use Rattle.std.specs.Prelude.{ℕ, ◌≡◌, ◌+◌, ◌*◌, ◌<◌, ◌⊎◌, Bool, true, false, ◌&&◌, List, [], ◌∷◌}
use Rattle.std.specs.Prelude.{length, map, slice_index_or, slice_set}
use Rattle.std.specs.List.{fold, list_any, list_all}
use Rattle.assign.specs.Sets.{has}
use Rattle.rel_table.specs.Table.{TruthTable, truth_at}
use Rattle.language.specs.Ranges.{is_in}
use Rattle.language.specs.Language.{Language, variable_count, range_of}
use Rattle.propagators.specs.Families.{Family, Arc, is_wanted, is_consistent, is_arc_consistent}
use Rattle.propagators.specs.Families.{is_not_empty, family_size, IsSubfamily}

-- a tuple takes each of its values from the set at its place
abbrev pub IsWithin : List (List ℕ) → List ℕ → Type 0
IsWithin [] [] = Unit {0}
IsWithin [] (x ∷ tuple) = ⊥
IsWithin (xs ∷ sets) [] = ⊥
IsWithin (xs ∷ sets) (x ∷ tuple) = (has xs x ≡ true) × IsWithin sets tuple

-- an accepted tuple within the sets has this value at this place
pub record IsThrough (sets : List (List ℕ)) (accepted : List ℕ → Bool) (i x : ℕ) : Type 0 where
  pub tuple : List ℕ
  pub within : IsWithin sets tuple
  pub at : slice_index_or tuple i 0 ≡ x
  pub is : accepted tuple ≡ true

-- what is found are exactly the values of the sets that accepted tuples within the sets go through
pub record AreSupported (sets : List (List ℕ)) (accepted : List ℕ → Bool) (found : List (List ℕ)) :
    Type 0 where
  pub all : (tuple : List ℕ) → IsWithin sets tuple → accepted tuple ≡ true → IsWithin found tuple
  pub only : (i x : ℕ) → has (slice_index_or found i []) x ≡ true → IsThrough sets accepted i x

-- an accepted tuple within the sets
pub record HasTuple (sets : List (List ℕ)) (accepted : List ℕ → Bool) : Type 0 where
  pub tuple : List ℕ
  pub within : IsWithin sets tuple
  pub is : accepted tuple ≡ true

-- there is none
abbrev pub HasNoTuple : List (List ℕ) → (List ℕ → Bool) → Type 0
HasNoTuple sets accepted = (tuple : List ℕ) → IsWithin sets tuple → accepted tuple ≡ true → ⊥

-- The values that accepted tuples within the sets go through, and some that were found before.
-- There are none of the first set where there is no such tuple.
pub record AreSupportedBeside (sets : List (List ℕ)) (accepted : List ℕ →
    Bool) (before found : List (List ℕ)) : Type 0 where
  pub all : (tuple : List ℕ) → IsWithin sets tuple → accepted tuple ≡ true → IsWithin found tuple
  pub only : (i x : ℕ) → has (slice_index_or found i []) x ≡ true →
      (has (slice_index_or before i []) x ≡ true) ⊎ IsThrough sets accepted i x
  pub some : (x : ℕ) → has (slice_index_or found 0 []) x ≡ true → HasTuple sets accepted

-- found are those values of the set at a place that go with some values of the others
pub record AreAlong (sets : List (List ℕ)) (accepted : List ℕ → Bool) (place : ℕ) (found : List ℕ) :
    Type 0 where
  pub others : List ℕ
  pub within : IsWithin sets others
  pub goes : (x : ℕ) →
      has found x ≡ (has (slice_index_or sets place []) x && accepted (slice_set others place x))

-- the first value of each variable of a scope
abbrev pub firsts_on : Family → List ℕ → List ℕ
firsts_on f scope = map (λ v. slice_index_or (slice_index_or f v []) 0 0) scope

-- what a table says of a tuple that goes on from a place
abbrev pub continues : TruthTable → Bool → ℕ → List ℕ → Bool
continues table holding at tuple =
    is_wanted holding (truth_at table (fold (λ at x. at * table.value_count + x) at tuple))

-- each member is below d
abbrev pub AreBelow : ℕ → List ℕ → Type 0
AreBelow d xs = (x : ℕ) → has xs x ≡ true → x < d

-- a family has for each variable some of its values
pub record IsFamilyOf (l : Language) (f : Family) : Type 0 where
  pub size : length f ≡ variable_count l
  pub values : (v : ℕ) → AreBelow l.value_count (slice_index_or f v [])
  pub within : (v x : ℕ) → has (slice_index_or f v []) x ≡ true → is_in (range_of l v) x ≡ true

-- g has of f's values those that the condition supports
pub record IsRevised (a : Arc) (f g : Family) : Type 0 where
  pub within : IsSubfamily g f
  pub greatest : (other : Family) → IsSubfamily other f →
      is_consistent other a.scope a.accepted ≡ true → IsSubfamily other g
  pub consistent : is_consistent g a.scope a.accepted ≡ true
  pub size : length g ≡ length f
  pub full : list_all is_not_empty f ≡ true → list_all is_not_empty g ≡ true

-- no consistent family within f has a value for some variable
pub record IsDead (a : Arc) (f : Family) : Type 0 where
  pub variable : ℕ
  pub low : variable < length f
  pub empty : (other : Family) → IsSubfamily other f →
      is_consistent other a.scope a.accepted ≡ true → slice_index_or other variable [] ≡ []

-- the second differs from the first at these variables alone
abbrev pub DifferOnlyAt : List ℕ → Family → Family → Type 0
DifferOnlyAt changed f g = (v : ℕ) → v < 128 → has changed v ≡ false →
    slice_index_or g v [] ≡ slice_index_or f v []

-- each condition is consistent that has none of these variables
abbrev pub AreSettled : List Arc → List ℕ → Family → Type 0
AreSettled arcs changed f = (k : ℕ) (a : Arc) → k < length arcs →
    list_any (has changed) (slice_index_or arcs k a).scope ≡ false →
    is_consistent f (slice_index_or arcs k a).scope (slice_index_or arcs k a).accepted ≡ true

-- no member stands twice
abbrev pub AreDifferent : List ℕ → Type 0
AreDifferent [] = Unit {0}
AreDifferent (v ∷ scope) = (has scope v ≡ false) × AreDifferent scope

-- the family with these sets for a scope's variables
abbrev pub replaced : List ℕ → List (List ℕ) → Family → Family
replaced [] found f = f
replaced (v ∷ scope) [] f = f
replaced (v ∷ scope) (xs ∷ found) f = replaced scope found (slice_set f v xs)

-- no variable has changed, or values were taken away
abbrev pub AreFewer : List ℕ → Family → Family → Type 0
AreFewer changed f g = (((v : ℕ) → has changed v ≡ false) × (g ≡ f))
    ⊎ (family_size g < family_size f)

-- the variables that have changed, where values were taken away from f alone
pub record IsCutAt (changed : List ℕ) (f g : Family) : Type 0 where
  pub differ : DifferOnlyAt changed f g
  pub fewer : AreFewer changed f g

-- values were taken away, but none of an arc-consistent subfamily, and no set is empty
pub record IsUnderway (arcs : List Arc) (from f : Family) : Type 0 where
  pub within : IsSubfamily f from
  pub greatest : (other : Family) → IsSubfamily other from → is_arc_consistent arcs other ≡ true →
      IsSubfamily other f
  pub size : length f ≡ length from
  pub full : list_all is_not_empty f ≡ true
