-- How many sets may wait in a walk.
use Rattle.std.specs.Prelude.{ℕ, ◌+◌, ◌*◌, ◌≤◌, List, [], ◌∷◌, length}

-- A set has room on those below it: a place for each of these and for itself, and three for each of
-- its members, 385 in all.
abbrev pub FitsOn : List ℕ → List (List ℕ) → Type 0
FitsOn set below = length below + 1 + 3 * length set ≤ 385

-- each set has
abbrev pub AllFitOn : List (List ℕ) → Type 0
AllFitOn [] = Unit {0}
AllFitOn (set ∷ below) = FitsOn set below × AllFitOn below
