-- What a question violates on the scopes of a language, of the relations that a mask for each scope
-- has.
use Rattle.std.specs.Prelude.{ℕ, ◌≡◌, ◌≢◌, ◌^◌, ◌<◌, ◌≤◌, Bool, true, List, [], length}
use Rattle.std.specs.Prelude.{slice_index_or}
use Rattle.std.specs.List.{filter, list_any}
use Rattle.assign.specs.Assignment.{Assignment}
use Rattle.assign.specs.Sets.{ones_of}
use Rattle.language.specs.Language.{Language, IsLanguage, scope_at, violates}
use Rattle.bias_store.specs.declared.tables.Violated.{Violated}

-- of the relations of a mask, those on the scope of this number that the question violates
abbrev pub violated_on : Language → Assignment → ℕ → ℕ → List ℕ
violated_on l q s mask = filter (λ r. violates l (record { scope = s; rel = r }) q) (ones_of mask)

-- none, from a scope to another one
abbrev pub AreNoneViolated : Language → Assignment → List ℕ → ℕ → ℕ → Type 0
AreNoneViolated l q masks from to = (s : ℕ) → from ≤ s → s < to →
    violated_on l q s (slice_index_or masks s 0) ≡ []

-- the first scope from one on that has some, and those
pub record IsViolated (l : Language) (q : Assignment) (masks : List ℕ) (from : ℕ) (v : Violated) :
    Type 0 where
  pub lawful : IsLanguage l
  pub within : v.scope < length l.scopes
  pub ahead : from ≤ v.scope
  pub none : AreNoneViolated l q masks from v.scope
  pub here : ones_of v.relations ≡ violated_on l q v.scope (slice_index_or masks v.scope 0)
  pub some : v.relations ≢ 0
  pub small : v.relations < 2 ^ 64

-- some relation on the scope of this number is violated, of those that its mask has
abbrev pub IsHit : Language → Assignment → List ℕ → ℕ → Type 0
IsHit l q masks s = list_any (λ r. violates l (record { scope = s; rel = r }) q)
    (ones_of (slice_index_or masks s 0)) ≡ true

-- the first sets, so many, are scopes with violated relations, and all such ones where that is said
pub record AreHitsListed (l : Language) (q : Assignment) (masks : List ℕ) (sets : List (List ℕ))
    (count : ℕ) (are_all : Bool) : Type 0 where
  pub room : count ≤ length sets
  pub some : (j : ℕ) → j < count → (s : ℕ) × (s < length l.scopes)
      × (slice_index_or sets j [] ≡ scope_at l s) × IsHit l q masks s
  pub all : are_all ≡ true → (s : ℕ) → s < length l.scopes → IsHit l q masks s →
      (j : ℕ) × (j < count) × (slice_index_or sets j [] ≡ scope_at l s)
