-- Scopes and relations, told by their names.
use Rattle.std.specs.Prelude.{◌≡◌, ℕ, ◌<◌, Bool, List, [], length, map, position, Option, Some}
use Rattle.std.specs.Prelude.{None, slice_index_or, option_map}
use Rattle.std.specs.List.{find}
use Rattle.std.specs.Borrow.{Bor}
use Rattle.std.specs.Str.{bytes_eq}
use Rattle.std.specs.Cmp.Lexicographic.{pointwise}
use Rattle.assign.specs.SetLemmas.{is_one}
use Rattle.rel_table.specs.Relation.{Relation}
use Rattle.language.specs.Language.{Language, Given, given_on, relations_on}
use Rattle.language.specs.Texts.{is_part, scope_names}

-- the texts that are pointed to
abbrev pub texts_of : List (Bor (List ℕ)) → List (List ℕ)
texts_of texts = map (λ text. text.now) texts

-- whether a scope's variables have these names, in this order
abbrev pub has_names : Language → List (List ℕ) → List ℕ → Bool
has_names l names scope = pointwise bytes_eq (scope_names l scope) names

-- the number of the scope whose variables have these names, in this order
abbrev pub scope_named : Language → List (List ℕ) → Option ℕ
scope_named l names = position (has_names l names) l.scopes

-- the relation of this name
abbrev pub relation_among : List ℕ → List Given → Option Relation
relation_among name given =
    option_map (λ (g : Given). g.relation) (find (λ (g : Given). bytes_eq g.name name) given)

-- the vocabulary's relation of this name, among those on a scope
abbrev pub relation_named : Language → ℕ → List ℕ → Option Relation
relation_named l s name = relation_among name (given_on l s)

-- bit k of the mask tells whether relation k on the scope lies within this one
abbrev pub TellsWithin : Language → ℕ → Relation → ℕ → Type 0
TellsWithin l s r mask = (k : ℕ) → k < length (relations_on l s) →
    is_one mask k ≡ is_part (slice_index_or (relations_on l s) k []) r

-- the same where there is a relation, and no mask where there is none
abbrev pub TellsNamed : Language → ℕ → Option Relation → Option ℕ → Type 0
TellsNamed l s None None = Unit {0}
TellsNamed l s None (Some mask) = ⊥
TellsNamed l s (Some r) None = ⊥
TellsNamed l s (Some r) (Some mask) = TellsWithin l s r mask
