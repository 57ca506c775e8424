-- The values that each variable may have, and what they make of a relation on a scope.
use Rattle.std.specs.Prelude.{ℕ, ◌+◌, ◌-◌, ◌<◌, ◌≤◌, ◌≡◌, Bool, true, false, IsTrue, not, ◌&&◌}
use Rattle.std.specs.Prelude.{◌||◌, List, [], ◌∷◌, length, map, slice_index_or, nat_le, ◌==◌}
use Rattle.std.specs.List.{list_all, zip}
use Rattle.rel_table.specs.Relation.{Relation, tuples, holds}
use Rattle.language.specs.declared.ranges.ValueRange.{ValueRange}

-- whether a value is one of the range
abbrev pub is_in : ValueRange → ℕ → Bool
is_in range x = nat_le range.first x && nat_le x range.last

-- the range of the variable of this number
abbrev pub range_in : List ValueRange → ℕ → ValueRange
range_in ranges v = slice_index_or ranges v (record { first = 0; last = 63 })

-- that of all d values
abbrev pub whole_range : ℕ → ValueRange
whole_range d = record { first = 0; last = d - 1 }

-- some of d values
pub record IsRange (d : ℕ) (range : ValueRange) : Type 0 where
  pub some : range.first ≤ range.last
  pub known : range.last < d

-- all of d values
pub record IsWhole (d : ℕ) (range : ValueRange) : Type 0 where
  pub first : range.first ≡ 0
  pub last : range.last + 1 ≡ d

-- whether it is all of d values
abbrev pub is_whole_range : ℕ → ValueRange → Bool
is_whole_range d range = (range.first == 0) && (range.last == d - 1)

-- whether each variable of a scope has all of d values
abbrev pub are_whole : List ValueRange → ℕ → List ℕ → Bool
are_whole ranges d scope = list_all (λ v. is_whole_range d (range_in ranges v)) scope

-- whether the variables of two scopes have the same ranges, one by one
abbrev pub have_same_ranges : List ValueRange → List ℕ → List ℕ → Bool
have_same_ranges ranges [] [] = true
have_same_ranges ranges [] (w ∷ other) = false
have_same_ranges ranges (v ∷ scope) [] = false
have_same_ranges ranges (v ∷ scope) (w ∷ other) =
    ((range_in ranges v).first == (range_in ranges w).first) &&
    ((range_in ranges v).last == (range_in ranges w).last) && have_same_ranges ranges scope other

-- whether each value of a tuple on a scope is one of its variable's
abbrev pub are_in : List ValueRange → List ℕ → List ℕ → Bool
are_in ranges scope tuple =
    list_all (λ both. is_in (range_in ranges both.0) both.1) (zip scope tuple)

-- which tuples on a scope are within the ranges
abbrev pub inside : List ValueRange → ℕ → List ℕ → Relation
inside ranges d scope = map (are_in ranges scope) (tuples d (length scope))

-- a relation on a scope: it holds at each tuple with a value outside its variable's range
abbrev pub widened : List ValueRange → ℕ → List ℕ → Relation → Relation
widened ranges d scope r =
    map (λ both. not (are_in ranges scope both.0) || both.1) (zip (tuples d (length scope)) r)

-- two relations on a scope hold at the same tuples within the ranges
abbrev pub AgreeWithin : List ValueRange → ℕ → List ℕ → Relation → Relation → Type 0
AgreeWithin ranges d scope r q = (tuple : List ℕ) → length tuple ≡ length scope →
    IsTrue (are_in ranges scope tuple) → holds d r tuple ≡ holds d q tuple
