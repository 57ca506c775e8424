-- The prefixes at which nodes are still to stand, by the first of them.
use Rattle.std.specs.Prelude.{ℕ, ◌+◌, ◌-◌, ◌<◌, ◌≤◌, ◌≡◌, Bool, true, false, IsTrue, List, [], ◌∷◌}
use Rattle.std.specs.Prelude.{◌++◌, length, map, take, slice_index_or, All}
use Rattle.std.specs.List.{range_with_len}
use Rattle.assign.specs.Assignment.{Assignment}
use Rattle.language.specs.declared.candidates.Candidate.{Candidate}
use Rattle.language.specs.Language.{Language, variable_count, range_of}
use Rattle.language.specs.Search.{order_of, assignment_of, are_ranged}

-- the last value that may follow a prefix: that of the next variable
abbrev pub last_behind : Language → Candidate → List ℕ → ℕ
last_behind l c p = (range_of l (slice_index_or (order_of l c) (length p) 0)).last

-- those that come after p, where it follows a front: its greater siblings, and those of the
-- prefixes before it
unfoldable pub later_from : Language → Candidate → List ℕ → List ℕ → List (List ℕ)
later_from l c front [] = []
later_from l c front (x ∷ p) = later_from l c (front ++ x ∷ []) p
    ++ map (λ y. front ++ y ∷ []) (range_with_len (x + 1) (last_behind l c front - x))

abbrev pub later : Language → Candidate → List ℕ → List (List ℕ)
later l c p = later_from l c [] p

-- all of them, where p is the first, or there is none
abbrev pub ahead : Bool → Language → Candidate → List ℕ → List (List ℕ)
ahead true l c p = p ∷ later l c p
ahead false l c p = []

-- values for the first variables of a candidate's order, each one of its variable's, and the
-- assignment that gives them
pub record IsPrefixAt (l : Language) (c : Candidate) (values : List ℕ) (e : Assignment) :
    Type 0 where
  pub short : length values ≤ variable_count l
  pub small : All (λ x. x < l.value_count) values
  pub ranged : IsTrue (are_ranged l (assignment_of l c values))
  pub is : e ≡ assignment_of l c values

-- The list has n values at most, and before each of them the same ones stand as in an earlier list.
abbrev pub HasFronts : List ℕ → ℕ → List ℕ → Type 0
HasFronts before n now = (j : ℕ) → j < length now → (j < n) × (take j now ≡ take j before)
