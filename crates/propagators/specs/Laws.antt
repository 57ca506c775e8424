-- Laws of arc consistency.
use Rattle.std.specs.Prelude.{ℕ, ◌≡◌, ◌&&◌, List, [], Option, slice_index_or}
use Rattle.std.specs.List.{list_all}
use Rattle.assign.specs.Sets.{has}
use Rattle.assign.specs.Assignment.{Assignment}
use Rattle.language.specs.declared.candidates.Candidate.{Candidate}
use Rattle.language.specs.Language.{Language}
use Rattle.propagators.specs.Families.{Family, Arc, arcs_of, is_not_empty, left_by, has_family}
use Rattle.propagators.specs.Families.{IsSubfamily, IsLargest, largest}

-- Pruning comes to the largest arc-consistent family.
abbrev pub LargestIs : Type 0
LargestIs = (arcs : List Arc) (family : Family) → IsLargest arcs family (largest arcs family)

-- Two that are the largest have the same values.
abbrev pub LargestIsOne : Type 0
LargestIsOne = (arcs : List Arc) (from f g : Family) → IsLargest arcs from f →
    IsLargest arcs from g → IsSubfamily f g × IsSubfamily g f

-- There is an arc-consistent family of nonempty sets exactly where the largest one has no empty
-- set.
abbrev pub LargestTells : Type 0
LargestTells =
    (l : Language) (list : List Candidate) (against : Option Candidate) (e : Assignment) →
    has_family l list against e
    ≡ list_all is_not_empty (largest (arcs_of l list against) (left_by l e))

-- Where fewer values are left, the largest is the one within these and the old largest.
abbrev pub LargestAgain : Type 0
LargestAgain =
    (arcs : List Arc) (from f fewer both g : Family) → IsLargest arcs from f →
    IsSubfamily fewer from →
    ((v x : ℕ) → has (slice_index_or both v []) x
    ≡ (has (slice_index_or fewer v []) x && has (slice_index_or f v []) x)) →
    IsLargest arcs both g → IsLargest arcs fewer g
