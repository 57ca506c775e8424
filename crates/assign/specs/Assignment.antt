-- Partial assignments: for each variable its value, if it has one.
use Rattle.std.specs.Prelude.{ℕ, ◌==◌, Bool, true, false, ◌&&◌, ◌≡◌, ◌<◌, List, [], ◌∷◌, ◌++◌, ◌-◌}
use Rattle.std.specs.Prelude.{length, map, replicate, Option, Some, None, is_some, unwrap_or}
use Rattle.std.specs.Prelude.{if◌then◌else◌, slice_index_or, All}
use Rattle.std.specs.List.{list_all}
use Rattle.std.specs.Option.{ForSome}
use Rattle.assign.specs.Sets.{MOST, numbers, has, set_where}

-- in vocabulary order, an option of a value for each variable
abbrev pub Assignment : Type 0
Assignment = List (Option ℕ)

-- the value of a variable
abbrev pub value_of : Assignment → ℕ → Option ℕ
value_of e v = slice_index_or e v None

-- the set of the variables that have a value
abbrev pub variables_of : Assignment → List ℕ
variables_of e = set_where (λ v. is_some (value_of e v))

-- e on the set w alone
abbrev pub restrict : Assignment → List ℕ → Assignment
restrict e w = map (λ v. if has w v then value_of e v else None) (numbers (length e))

-- e with 128 options: its own, and then empty ones
abbrev pub widened : Assignment → Assignment
widened e = e ++ replicate (MOST - length e) None

-- whether each variable has a value
abbrev pub is_complete : Assignment → Bool
is_complete e = list_all is_some e

-- whether each variable of a scope has a value
abbrev pub covers : Assignment → List ℕ → Bool
covers e scope = list_all (λ v. is_some (value_of e v)) scope

-- the tuple of the values on a scope that is covered
abbrev pub tuple_on : Assignment → List ℕ → List ℕ
tuple_on e scope = map (λ v. unwrap_or (value_of e v) 0) scope

-- the value that goes with a variable, where a list of variables stands beside one of values
abbrev pub value_beside : List ℕ → List ℕ → ℕ → Option ℕ
value_beside [] values v = None
value_beside (w ∷ vars) [] v = None
value_beside (w ∷ vars) (x ∷ values) v = if w == v then Some x else value_beside vars values v

-- the assignment of n variables that gives these values, as far as they go, to the variables of a
-- list
abbrev pub assigned : ℕ → List ℕ → List ℕ → Assignment
assigned n vars values = map (value_beside vars values) (numbers n)

-- whether two options are the same
abbrev pub is_same_value : Option ℕ → Option ℕ → Bool
is_same_value None None = true
is_same_value None (Some y) = false
is_same_value (Some x) None = false
is_same_value (Some x) (Some y) = x == y

-- whether two assignments are the same
abbrev pub is_same_assignment : Assignment → Assignment → Bool
is_same_assignment [] [] = true
is_same_assignment [] (y ∷ ys) = false
is_same_assignment (x ∷ xs) [] = false
is_same_assignment (x ∷ xs) (y ∷ ys) = is_same_value x y && is_same_assignment xs ys

-- an assignment of n variables to values below d
pub record IsAssignment (n d : ℕ) (e : Assignment) : Type 0 where
  pub size : length e ≡ n
  pub values_fit : All (λ o. ForSome o (λ x. x < d)) e
