-- Masks of relations on a scope.
use Rattle.std.specs.Prelude.{◌≡◌, ℕ, ◌<◌, Bool, List, [], length, Option, Some, None}
use Rattle.std.specs.Prelude.{slice_index_or}
use Rattle.std.specs.List.{list_all}
use Rattle.assign.specs.SetLemmas.{is_one}
use Rattle.rel_table.specs.Relation.{Relation}
use Rattle.language.specs.Language.{Language, relations_on}
use Rattle.language.specs.Texts.{is_part}

-- the relation lies within each of these
abbrev pub is_within_all : List Relation → Relation → Bool
is_within_all rs r = list_all (is_part r) rs

-- bit k of the mask tells whether relation k on the scope lies within each of these; no mask where
-- there are none such
abbrev pub TellsWithinAll : Language → ℕ → Option (List Relation) → Option ℕ → Type 0
TellsWithinAll l s None None = Unit {0}
TellsWithinAll l s None (Some mask) = ⊥
TellsWithinAll l s (Some rs) None = ⊥
TellsWithinAll l s (Some rs) (Some mask) = (k : ℕ) → k < length (relations_on l s) →
    is_one mask k ≡ is_within_all rs (slice_index_or (relations_on l s) k [])
