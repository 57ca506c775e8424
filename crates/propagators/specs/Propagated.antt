-- What propagation begins with, and what it leaves.
use Rattle.std.specs.Prelude.{ℕ, ◌≡◌, ◌<◌, ◌≤◌, Bool, true, false, List, Option, length}
use Rattle.std.specs.Prelude.{slice_index_or}
use Rattle.std.specs.List.{list_all}
use Rattle.language.specs.Language.{Language, IsLanguage, IsCandidate}
use Rattle.language.specs.declared.candidates.Candidate.{Candidate}
use Rattle.propagators.specs.Allowed.{AreConstraints}
use Rattle.propagators.specs.Families.{Family, Arc, arc_of, arcs_of, is_not_empty, IsLargest}
use Rattle.propagators.specs.Families.{largest}
use Rattle.propagators.specs.Supports.{IsFamilyOf, AreSettled, AreFewer, IsUnderway}
use Rattle.propagators.specs.Plans.{IsPlanOf, AreLeft}
use Rattle.propagators.specs.declared.plan.Plan.{Plan}

-- for each variable some of its values, and one at least
pub record AreSome (l : Language) (f : Family) : Type 0 where
  pub family : IsFamilyOf l f
  pub full : list_all is_not_empty f ≡ true

-- condition i of these constraints is this candidate, that is to hold or not to hold
pub record IsCondition (l : Language) (list : List Candidate) (against : Option Candidate) (i : ℕ)
    (c : Candidate) (holding : Bool) : Type 0 where
  pub lawful : IsLanguage l
  pub constraints : AreConstraints l list against
  pub low : i < length (arcs_of l list against)
  pub candidate : IsCandidate l c
  pub is : (a : Arc) → slice_index_or (arcs_of l list against) i a ≡ arc_of l c holding

-- such sets, in which each condition is consistent that has none of the changed variables
pub record IsSettledBut (l : Language) (arcs : List Arc) (changed : List ℕ) (f : Family) :
    Type 0 where
  pub family : IsFamilyOf l f
  pub full : list_all is_not_empty f ≡ true
  pub settled : AreSettled arcs changed f

-- g is the largest arc-consistent family within f, and no set of it is empty
pub record IsPropagated (l : Language) (arcs : List Arc) (f g : Family) : Type 0 where
  pub largest : IsLargest arcs f g
  pub full : list_all is_not_empty g ≡ true
  pub family : IsFamilyOf l g

-- some set of the largest arc-consistent family within f is empty
abbrev pub RunsEmpty : List Arc → Family → Type 0
RunsEmpty arcs f = list_all is_not_empty (largest arcs f) ≡ false

-- a plan of these conditions that has a brief of each
pub record IsWholePlanOf (l : Language) (arcs : List Arc) (p : Plan) : Type 0 where
  pub plan : IsPlanOf l arcs p
  pub room : length arcs ≤ length p.briefs.items

-- g is f after the conditions of one waiting variable were looked at. The others were waiting then,
-- and now next are.
pub record IsVisited (arcs : List Arc) (waiting next : List ℕ) (f g : Family) : Type 0 where
  pub underway : IsUnderway arcs f g
  pub settled : AreSettled arcs next g
  pub left : AreLeft waiting next f g

-- g is f after the conditions were gone through once, in which next lost values
pub record IsPassed (arcs : List Arc) (next : List ℕ) (f g : Family) : Type 0 where
  pub underway : IsUnderway arcs f g
  pub settled : AreSettled arcs next g
  pub fewer : AreFewer next f g
