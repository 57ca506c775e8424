-- Domains that are ready for the search below a prefix.
use Rattle.std.specs.Prelude.{ℕ, ◌<◌, ◌≤◌, ◌+◌, ◌==◌, ◌≡◌, true, false, List, [], ◌∷◌, ◌++◌, length}
use Rattle.std.specs.Prelude.{take, slice_index_or, slice_set, Option}
use Rattle.std.specs.List.{filter}
use Rattle.assign.specs.Assignment.{Assignment, assigned}
use Rattle.assign.specs.Sets.{has}
use Rattle.language.specs.declared.candidates.Candidate.{Candidate}
use Rattle.language.specs.Language.{Language, variable_count}
use Rattle.propagators.specs.Families.{Family, arcs_of, left_by}
use Rattle.propagators.specs.Propagated.{IsPropagated}
use Rattle.propagators.specs.declared.entailed.Entailed.{Entailed}
use Rattle.propagators.specs.declared.plan.Plan.{Plan}
use Rattle.propagators.specs.Entailed.{AreEntailed}
use Rattle.propagators.specs.Plans.{IsPlanOf}
use Rattle.fd_solver.specs.Outcomes.{is_alive_in}

-- the largest arc-consistent family of what an assignment leaves, with no empty set
abbrev pub IsReady : Language → List Candidate → Option Candidate → Assignment → Family → Type 0
IsReady l list against e f = IsPropagated l (arcs_of l list against) (left_by l e) f

-- the family with one value alone left to a variable
abbrev pub fixed : Family → ℕ → ℕ → Family
fixed f v x = slice_set f v (filter (λ y. x == y) (slice_index_or f v []))

-- rows of a family and entailed conditions each, for each depth the number of its row, and what is
-- known of all conditions
pub record Room : Type 0 where
  pub depths : List Family
  pub entailed : List Entailed
  pub rows : List ℕ
  pub plan : Plan

-- how many conditions it has room for
abbrev pub condition_room : Room → ℕ
condition_room w = w.plan.room

-- the row of a depth
abbrev pub depth_row : Room → ℕ → ℕ
depth_row w k = slice_index_or w.rows k 0

-- the family in the row of a depth
abbrev pub family_of : Room → ℕ → Family
family_of w k = slice_index_or w.depths (depth_row w k) []

-- ---- what a depth hands down to the next one

-- the next depth has the depth's own row, and the depth has none
abbrev pub shared : ℕ → Room → Room
shared at w = record w { rows = slice_set (slice_set w.rows at 129) (at + 1) (depth_row w at) }

-- the next depth has a row of its own, with a copy
abbrev pub copied : Entailed → ℕ → Room → Room
copied e at w = record w {
  depths = slice_set w.depths (at + 1) (family_of w at);
  entailed = slice_set w.entailed (at + 1) (slice_index_or w.entailed (depth_row w at) e);
  rows = slice_set w.rows (at + 1) (at + 1);
}

-- at a depth that has a row where the variable has the value
pub record IsInRow (w : Room) (at v x : ℕ) : Type 0 where
  pub row : depth_row w at ≤ at
  pub value : has (slice_index_or (family_of w at) v []) x ≡ true

-- the depth's row was shared, and the variable has no value past this one there
pub record IsShared (old new : Room) (at v x below : ℕ) : Type 0 where
  pub row : below ≡ depth_row old at
  pub room : new ≡ shared at old
  pub last : (y : ℕ) → x < y → has (slice_index_or (family_of old at) v []) y ≡ false

-- the next depth has a copy
pub record IsCopied (old new : Room) (at below : ℕ) : Type 0 where
  pub row : below ≡ at + 1
  pub room : (e : Entailed) → new ≡ copied e at old

-- ---- the room is ready for the search below a prefix

-- What is left at the depth k of the prefix q, where the values from x on are still to be tried,
-- stands in the depth's row. A number past the depth says that it has none, as no such value is
-- alive.
pub record IsLeft (l : Language) (list : List Candidate) (against : Option Candidate)
    (order : List ℕ) (w : Room) (k : ℕ) (q : List ℕ) (x : ℕ) : Type 0 where
  pub ready : depth_row w k ≤ k →
      IsReady l list against (assigned (variable_count l) order q) (family_of w k)
  pub entailed : depth_row w k ≤ k → (e : Entailed) → AreEntailed (arcs_of l list against) w.plan
      (slice_index_or w.entailed (depth_row w k) e) (family_of w k)
  pub spent : k < depth_row w k → (y : ℕ) → x ≤ y →
      is_alive_in l list against order (q ++ y ∷ []) ≡ false

-- at the prefix's depth the values from x on are still to be tried
pub record IsArranged (l : Language) (list : List Candidate) (against : Option Candidate)
    (order : List ℕ) (p : List ℕ) (x : ℕ) (w : Room) : Type 0 where
  pub here : IsLeft l list against order w (length p) p x
  -- above it those past the prefix's
  pub above : (k : ℕ) → k < length p →
      IsLeft l list against order w k (take k p) (slice_index_or p k 0 + 1)
  -- no two depths have the same row
  pub rising : (j k : ℕ) → j < k → k ≤ length p → depth_row w j ≤ j → depth_row w k ≤ k →
      depth_row w j < depth_row w k
  pub plan : IsPlanOf l (arcs_of l list against) w.plan
  -- with a row for no value and for each number of values
  pub deep : variable_count l < length w.depths
  pub same : length w.entailed ≡ length w.depths
  pub wide : length w.rows ≡ 129
