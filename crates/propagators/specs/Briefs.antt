-- What is known of a condition before the search.
use Rattle.std.specs.Prelude.{ℕ, zero, suc, ◌≡◌, ◌<◌, ◌≤◌, ◌==◌, ◌⊎◌, Bool, not, false, List, []}
use Rattle.std.specs.Prelude.{◌∷◌, length, take, slice_index_or}
use Rattle.rel_table.specs.Relation.{Relation}
use Rattle.language.specs.Language.{Language, IsCandidate, scope_of}
use Rattle.language.specs.Pairs.{ArePairTables, IsPairTable}
use Rattle.language.specs.declared.masks.PairBounds.{PairBounds}
use Rattle.propagators.specs.Families.{Arc, arc_of}
use Rattle.propagators.specs.Loose.{IsBounded}
use Rattle.propagators.specs.Pairs.{by_table, AgreeInside}
use Rattle.propagators.specs.declared.briefs.OnScope.{OnScope}
use Rattle.propagators.specs.declared.briefs.Pair.{Pair}
use Rattle.propagators.specs.declared.briefs.Brief.{Brief}
use Rattle.propagators.specs.declared.briefs.Brief.TheVariants.{Two, Apart, Other}

-- what a pair says of two values by its table
abbrev pub by_pair : Language → List Relation → Pair → List ℕ → Bool
by_pair l pairs p = by_table l pairs p.table p.holding

-- the condition of a pair, by its table
abbrev pub arc_by : Language → List Relation → Pair → Arc
arc_by l pairs p = record { scope = p.first ∷ p.second ∷ []; accepted = by_pair l pairs p }

-- a condition on two variables, of whose values within the ranges a table says the same
pub record IsPairOf (l : Language) (a : Arc) (p : Pair) : Type 0 where
  pub scope : a.scope ≡ p.first ∷ p.second ∷ []
  pub table : IsPairTable l p.table
  pub pairs : List Relation
  pub are : ArePairTables l pairs
  pub agree : AgreeInside l a.scope (by_pair l pairs p) a.accepted
  pub bounds : IsBounded l.value_count (by_pair l pairs p) p.bounds

-- a test of two values below d says that they differ
abbrev pub TellsApart : ℕ → (List ℕ → Bool) → Type 0
TellsApart d accepted = (x y : ℕ) → x < d → y < d → accepted (x ∷ y ∷ []) ≡ not (x == y)

-- a condition that two variables differ
pub record IsApartOf (l : Language) (a : Arc) (p : Pair) : Type 0 where
  pub pair : IsPairOf l a p
  pub apart : (pairs : List Relation) → ArePairTables l pairs →
      TellsApart l.value_count (by_pair l pairs p)

-- a condition that a candidate holds, or that it doesn't, whose variables stand in the first ones
-- of four places
pub record IsOnScope (l : Language) (a : Arc) (o : OnScope) : Type 0 where
  pub candidate : IsCandidate l o.candidate
  pub is : a ≡ arc_of l o.candidate o.holding
  pub size : o.size ≤ 4
  pub scope : take o.size o.scope ≡ scope_of l o.candidate

abbrev pub IsBriefOf : Language → Arc → Brief → Type 0
IsBriefOf l a (Two p) = IsPairOf l a p
IsBriefOf l a (Apart p) = IsApartOf l a p
IsBriefOf l a (Other o) = IsOnScope l a o

-- what stands for a brief where there is none
abbrev pub blank : Brief
blank = Other
    (record { scope = []; size = 0; holding = false; candidate = record { scope = 0; rel = 0 } })

-- the first conditions have theirs, as far as these go
abbrev pub AreBriefs : Language → List Arc → List Brief → Type 0
AreBriefs l arcs briefs = (k : ℕ) (a : Arc) (b : Brief) → k < length briefs → k < length arcs →
    IsBriefOf l (slice_index_or arcs k a) (slice_index_or briefs k b)

-- the bound of the variable at a place of the scope
abbrev pub at_place : PairBounds → ℕ → ℕ
at_place b zero = b.first
at_place b (suc j) = b.second

-- the same by a brief. What isn't known of another condition is as many as there may be.
abbrev pub bound_at : Brief → ℕ → ℕ
bound_at (Two p) j = at_place p.bounds j
bound_at (Apart p) j = at_place p.bounds j
bound_at (Other o) j = 64

-- a brief of two variables is one of this scope
abbrev pub IsBriefOn : List ℕ → Brief → Type 0
IsBriefOn scope (Two p) = scope ≡ p.first ∷ p.second ∷ []
IsBriefOn scope (Apart p) = scope ≡ p.first ∷ p.second ∷ []
IsBriefOn scope (Other o) = Unit {0}

-- ---- Conditions that two variables differ

-- these are the two variables of a pair
abbrev pub AreBothOf : Pair → ℕ → ℕ → Type 0
AreBothOf p v u = ((v ≡ p.first) × (u ≡ p.second)) ⊎ ((v ≡ p.second) × (u ≡ p.first))

-- the brief of such a condition
abbrev pub IsApart : Brief → Type 0
IsApart (Two p) = ⊥
IsApart (Apart p) = Unit {0}
IsApart (Other o) = ⊥

-- that of one on these two variables
abbrev pub IsApartAt : Brief → ℕ → ℕ → Type 0
IsApartAt (Two p) v u = ⊥
IsApartAt (Apart p) v u = AreBothOf p v u
IsApartAt (Other o) v u = ⊥
