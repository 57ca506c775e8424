-- Conditions that stay consistent.
use Rattle.std.specs.Prelude.{ℕ, ◌/◌, ◌%◌, ◌≡◌, ◌≢◌, ◌<◌, Bool, true, List, [], length}
use Rattle.std.specs.Prelude.{slice_index_or}
use Rattle.std.specs.List.{list_all}
use Rattle.assign.specs.Sets.{has, ones_of}
use Rattle.propagators.specs.Families.{Family, Arc, is_consistent, is_not_empty, IsSubfamily}
use Rattle.propagators.specs.Pairs.{IsOnly}
use Rattle.propagators.specs.Briefs.{IsApart}
use Rattle.propagators.specs.declared.briefs.Brief.{Brief}
use Rattle.propagators.specs.declared.plan.Plan.{Plan}
use Rattle.propagators.specs.declared.entailed.Entailed.{Entailed}

-- it is consistent whatever values of theirs the variables lose, where each keeps one
abbrev pub IsEntailed : Arc → Family → Type 0
IsEntailed a f = (g : Family) → IsSubfamily g f → length g ≡ length f →
    list_all is_not_empty g ≡ true → is_consistent g a.scope a.accepted ≡ true

-- the condition with this number is among them
abbrev pub is_noted_in : Entailed → ℕ → Bool
is_noted_in e k = has (ones_of (slice_index_or e.words (k / 64) 0)) (k % 64)

-- the variable is among those that are struck
abbrev pub is_among_struck : Entailed → ℕ → Bool
is_among_struck e v = has (ones_of (slice_index_or e.struck (v / 64) 0)) (v % 64)

-- each condition that is among them is entailed, and so is each that says that a struck variable
-- differs from another one
pub record AreEntailed (arcs : List Arc) (p : Plan) (e : Entailed) (f : Family) : Type 0 where
  pub noted : (k : ℕ) (a : Arc) → k < length arcs → is_noted_in e k ≡ true →
      IsEntailed (slice_index_or arcs k a) f
  pub struck : (k v : ℕ) (a : Arc) (b : Brief) → k < length arcs → k < length p.briefs.items →
      is_among_struck e v ≡ true → has (slice_index_or arcs k a).scope v ≡ true →
      IsApart (slice_index_or p.briefs.items k b) → IsEntailed (slice_index_or arcs k a) f

-- one member alone
pub record HasOne (xs : List ℕ) : Type 0 where
  pub value : ℕ
  pub only : IsOnly xs value

-- the variables of a scope have one value each, but for that at one place
pub record IsAlmostFixed (f : Family) (scope : List ℕ) : Type 0 where
  pub place : ℕ
  pub low : place < length scope
  pub others : (j : ℕ) → j < length scope → j ≢ place →
      HasOne (slice_index_or f (slice_index_or scope j 0) [])

-- so it is for this place
abbrev pub AreFixedBut : Family → List ℕ → ℕ → Type 0
AreFixedBut f scope place = (j : ℕ) → j < length scope → j ≢ place →
    HasOne (slice_index_or f (slice_index_or scope j 0) [])
