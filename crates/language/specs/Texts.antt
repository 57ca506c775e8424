-- The texts of questions and candidates.
use Rattle.std.specs.Prelude.{ℕ, ℤ, pos, ◌+ℤ◌, Bool, not, ◌||◌, List, [], ◌∷◌, ◌++◌, map, filter}
use Rattle.std.specs.Prelude.{Option, Some, None, slice_index_or}
use Rattle.std.specs.List.{list_all, zip, flat_map}
use Rattle.std.specs.Fmt.{decimal, signed_decimal}
use Rattle.assign.specs.Assignment.{Assignment}
use Rattle.rel_table.specs.Relation.{Relation}
use Rattle.language.specs.Language.{Language, Given, given_on, scope_of, relation_of}
use Rattle.language.specs.declared.candidates.Candidate.{Candidate}

-- a space, the name, `=` and the shown value, where the variable has one
abbrev pub value_text : ℤ → List ℕ → Option ℕ → List ℕ
value_text least name None = []
value_text least name (Some x) = 32 ∷ (name ++ 61 ∷ signed_decimal (least +ℤ pos x))

-- that of each variable, in vocabulary order
abbrev pub values_text : ℤ → List (List ℕ) → Assignment → List ℕ
values_text least [] values = []
values_text least (name ∷ names) [] = []
values_text least (name ∷ names) (value ∷ values) =
    value_text least name value ++ values_text least names values

-- `q`, the number, and the values: `q1 a=1 b=2`
abbrev pub question_text : Language → ℕ → Assignment → List ℕ
question_text l k q = 113 ∷ (decimal k ++ values_text l.least_value l.names q)

-- each tuple of the first is one of the second
abbrev pub is_part : Relation → Relation → Bool
is_part r q = list_all (λ both. not both.0 || both.1) (zip r q)

-- pieces with a byte between them
abbrev pub joined : ℕ → List (List ℕ) → List ℕ
joined between [] = []
joined between (piece ∷ []) = piece
joined between (piece ∷ next ∷ pieces) = piece ++ between ∷ joined between (next ∷ pieces)

-- the names of those that contain a relation
abbrev pub names_containing : Relation → List Given → List (List ℕ)
names_containing r given =
    map (λ (g : Given). g.name) (filter (λ (g : Given). is_part r g.relation) given)

-- the vocabulary's relations on the scope of this number that contain a relation there
abbrev pub containing : Language → ℕ → Relation → List (List ℕ)
containing l s r = names_containing r (given_on l s)

-- the names of a scope's variables
abbrev pub scope_names : Language → List ℕ → List (List ℕ)
scope_names l scope = map (λ v. slice_index_or l.names v []) scope

-- the relation's name, which lists those that contain it, and the scope's names: `eq&ne a b`
abbrev pub candidate_text : Language → Candidate → List ℕ
candidate_text l c = joined 38 (containing l c.scope (relation_of l c))
    ++ flat_map (λ name. 32 ∷ name) (scope_names l (scope_of l c))
