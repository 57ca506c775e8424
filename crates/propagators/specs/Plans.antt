-- Which conditions each variable has, and what looking at one of them does.
use Rattle.std.specs.Prelude.{ℕ, Bool, ◌+◌, ◌*◌, ◌/◌, ◌%◌, ◌≡◌, ◌<◌, ◌≤◌, ◌⊎◌, true, false, List}
use Rattle.std.specs.Prelude.{length, min, slice_index_or}
use Rattle.std.specs.List.{list_any}
use Rattle.assign.specs.Sets.{has, ones_of}
use Rattle.language.specs.Language.{Language}
use Rattle.propagators.specs.Families.{Family, Arc, is_consistent, family_size}
use Rattle.propagators.specs.Supports.{IsUnderway}
use Rattle.propagators.specs.Briefs.{IsBriefOf, AreBriefs, bound_at, IsApart, IsApartAt}
use Rattle.propagators.specs.declared.briefs.Brief.{Brief}
use Rattle.propagators.specs.declared.briefs.Brief.TheVariants.{Two, Apart, Other}
use Rattle.propagators.specs.declared.plan.Plan.{Plan}

-- in words of sets of 128 variables, those of all variables one word after another, number k is
-- with the variable
abbrev pub is_with : List ℕ → ℕ → ℕ → Bool
is_with sets v k = has (ones_of (slice_index_or sets (k / 64 * 128 + v) 0)) (k % 64)

-- With each variable are the conditions on it, as far as there is room, but for those of the first
-- ones that say that two differ.
abbrev pub AreNoted : List Arc → List Brief → ℕ → List ℕ → Type 0
AreNoted arcs briefs words sets =
    (k v : ℕ) (a : Arc) (b : Brief) → k < length arcs →
    k < words * 64 → has (slice_index_or arcs k a).scope v ≡ true →
    (is_with sets v k ≡ true) ⊎ ((k < length briefs) × IsApart (slice_index_or briefs k b))

-- where a brief says that two variables differ, each is with the other
abbrev pub IsParted : List ℕ → Brief → Type 0
IsParted aparts (Two p) = Unit {0}
IsParted aparts (Apart p) = (is_with aparts p.first p.second ≡ true)
    × (is_with aparts p.second p.first ≡ true)
IsParted aparts (Other o) = Unit {0}

-- one of the first conditions, so many, says that these two differ
pub record HasApart (briefs : List Brief) (i v u : ℕ) : Type 0 where
  pub place : ℕ
  pub low : place < i
  pub is : (b : Brief) → IsApartAt (slice_index_or briefs place b) v u

-- no others are with each other than those that have to differ by the first conditions, so many
abbrev pub AreApartSoFar : List Brief → List ℕ → ℕ → Type 0
AreApartSoFar briefs aparts i = (v u : ℕ) → v < 128 → is_with aparts v u ≡ true →
    HasApart briefs i v u

-- the limit of each variable is at least each bound that the first conditions have at it
abbrev pub AreLimits : List Arc → List Brief → List ℕ → Type 0
AreLimits arcs briefs limits =
    (k j : ℕ) (a : Arc) (b : Brief) → k < length briefs → k < length arcs →
    j < length (slice_index_or arcs k a).scope → bound_at (slice_index_or briefs k b) j
    ≤ slice_index_or limits (slice_index_or (slice_index_or arcs k a).scope j 0) 0

-- Of the first conditions, so many, each has its brief, and its variables' limits are at least its
-- bounds. It is noted with them, or they are with each other.
pub record AreTakenIn (l : Language) (arcs : List Arc) (bs : List Brief) (sets ls aps : List ℕ)
    (i : ℕ) : Type 0 where
  pub briefs : (k : ℕ) (a : Arc) (b : Brief) → k < i →
      IsBriefOf l (slice_index_or arcs k a) (slice_index_or bs k b)
  pub limits : (k j : ℕ) (a : Arc) (b : Brief) → k < i →
      j < length (slice_index_or arcs k a).scope → bound_at (slice_index_or bs k b) j
      ≤ slice_index_or ls (slice_index_or (slice_index_or arcs k a).scope j 0) 0
  pub noted : (k v : ℕ) (a : Arc) (b : Brief) → k < i →
      has (slice_index_or arcs k a).scope v ≡ true →
      (is_with sets v k ≡ true) ⊎ IsApart (slice_index_or bs k b)
  pub parted : (k : ℕ) (b : Brief) → k < i → IsParted aps (slice_index_or bs k b)
  pub apart : AreApartSoFar bs aps i

-- each variable of a condition is below 128
abbrev pub AreNarrow : List Arc → Type 0
AreNarrow arcs = (k v : ℕ) (a : Arc) → k < length arcs →
    has (slice_index_or arcs k a).scope v ≡ true → v < 128

-- a plan of these conditions
pub record IsPlanOf (l : Language) (arcs : List Arc) (p : Plan) : Type 0 where
  pub briefs : AreBriefs l arcs p.briefs.items
  pub noted : AreNoted arcs p.briefs.items p.words p.sets.items
  pub limits : AreLimits arcs p.briefs.items p.limits.items
  pub parted : (k : ℕ) (b : Brief) → k < length p.briefs.items → k < length arcs →
      IsParted p.aparts.items (slice_index_or p.briefs.items k b)
  pub apart : AreApartSoFar p.briefs.items p.aparts.items
      (min (length p.briefs.items) (length arcs))

-- the same variables are waiting and nothing has changed, or values were taken away
abbrev pub AreLeft : List ℕ → List ℕ → Family → Family → Type 0
AreLeft waiting next f g = ((next ≡ waiting) × (g ≡ f)) ⊎ (family_size g < family_size f)

-- g is f after a look at condition i, and next are the variables that are waiting then
pub record IsLooked (arcs : List Arc) (i : ℕ) (waiting next : List ℕ) (f g : Family) : Type 0 where
  pub underway : IsUnderway arcs f g
  pub left : AreLeft waiting next f g
  -- the condition is consistent, if there is one
  pub here : (a : Arc) → i < length arcs →
      is_consistent g (slice_index_or arcs i a).scope (slice_index_or arcs i a).accepted ≡ true
  -- a condition without a waiting variable had none before, and stays consistent
  pub before : (k : ℕ) (a : Arc) → k < length arcs →
      list_any (has next) (slice_index_or arcs k a).scope ≡ false →
      list_any (has waiting) (slice_index_or arcs k a).scope ≡ false
  pub stays : (k : ℕ) (a : Arc) → k < length arcs →
      list_any (has next) (slice_index_or arcs k a).scope ≡ false →
      is_consistent f (slice_index_or arcs k a).scope (slice_index_or arcs k a).accepted ≡ true →
      is_consistent g (slice_index_or arcs k a).scope (slice_index_or arcs k a).accepted ≡ true

-- The same, or a variable of the condition is waiting, at whose turn it is looked at.
pub record IsLeftOrLooked (arcs : List Arc) (i : ℕ) (waiting next : List ℕ) (f g : Family) :
    Type 0 where
  pub underway : IsUnderway arcs f g
  pub left : AreLeft waiting next f g
  pub here : (a : Arc) → i < length arcs →
      list_any (has next) (slice_index_or arcs i a).scope ≡ false →
      is_consistent g (slice_index_or arcs i a).scope (slice_index_or arcs i a).accepted ≡ true
  pub before : (k : ℕ) (a : Arc) → k < length arcs →
      list_any (has next) (slice_index_or arcs k a).scope ≡ false →
      list_any (has waiting) (slice_index_or arcs k a).scope ≡ false
  pub stays : (k : ℕ) (a : Arc) → k < length arcs →
      list_any (has next) (slice_index_or arcs k a).scope ≡ false →
      is_consistent f (slice_index_or arcs k a).scope (slice_index_or arcs k a).accepted ≡ true →
      is_consistent g (slice_index_or arcs k a).scope (slice_index_or arcs k a).accepted ≡ true

-- g is f after looks at the conditions that a variable differs from others, and next are the
-- variables that are waiting then
pub record AreLooked (arcs : List Arc) (p : Plan) (v : ℕ) (waiting next : List ℕ) (f g : Family) :
    Type 0 where
  pub underway : IsUnderway arcs f g
  pub left : AreLeft waiting next f g
  -- each of them is consistent that has no waiting variable
  pub here : (k : ℕ) (a : Arc) (b : Brief) → k < length arcs →
      has (slice_index_or arcs k a).scope v ≡ true → IsApart (slice_index_or p.briefs.items k b) →
      list_any (has next) (slice_index_or arcs k a).scope ≡ false →
      is_consistent g (slice_index_or arcs k a).scope (slice_index_or arcs k a).accepted ≡ true
  pub before : (k : ℕ) (a : Arc) → k < length arcs →
      list_any (has next) (slice_index_or arcs k a).scope ≡ false →
      list_any (has waiting) (slice_index_or arcs k a).scope ≡ false
  pub stays : (k : ℕ) (a : Arc) → k < length arcs →
      list_any (has next) (slice_index_or arcs k a).scope ≡ false →
      is_consistent f (slice_index_or arcs k a).scope (slice_index_or arcs k a).accepted ≡ true →
      is_consistent g (slice_index_or arcs k a).scope (slice_index_or arcs k a).accepted ≡ true
