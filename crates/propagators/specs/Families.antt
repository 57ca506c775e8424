-- Arc consistency. A family has for each variable the set of its values.
use Rattle.std.specs.Prelude.{ℕ, zero, suc, ◌+◌, ◌≡◌, ◌==◌, Bool, true, false, not, ◌&&◌, ◌||◌}
use Rattle.std.specs.Prelude.{List, [], ◌∷◌, ◌++◌, length, map, slice_index, slice_index_or, Option}
use Rattle.std.specs.Prelude.{Some, None}
use Rattle.std.specs.List.{filter, flat_map, list_any, list_all}
use Rattle.std.specs.Option.{option_map_or}
use Rattle.assign.specs.Sets.{numbers, has}
use Rattle.assign.specs.Assignment.{Assignment, value_of}
use Rattle.rel_table.specs.Relation.{holds}
use Rattle.propagators.specs.declared.constraints.Constraints.{Constraints}
use Rattle.language.specs.declared.candidates.Candidate.{Candidate}
use Rattle.language.specs.Language.{Language, variable_count, values_of, scope_of, relation_of}

abbrev pub Family : Type 0
Family = List (List ℕ)

-- one member of each list, in all ways
abbrev pub selections : {A : Type 0} → List (List A) → List (List A)
selections [] = [] ∷ []
selections (xs ∷ lists) = flat_map (λ x. map (λ rest. x ∷ rest) (selections lists)) xs

abbrev pub subsets : List ℕ → List (List ℕ)
subsets [] = [] ∷ []
subsets (x ∷ xs) = map (λ s. x ∷ s) (subsets xs) ++ subsets xs

abbrev pub is_not_empty : List ℕ → Bool
is_not_empty [] = false
is_not_empty (x ∷ xs) = true

-- what is left to a variable: of its values the one that it has, or, where it has none, all
abbrev pub domain_of : Language → ℕ → Option ℕ → List ℕ
domain_of l v None = values_of l v
domain_of l v (Some x) = filter (λ y. x == y) (values_of l v)

-- what an assignment leaves to each variable
abbrev pub left_by : Language → Assignment → Family
left_by l e = map (λ v. domain_of l v (value_of e v)) (numbers (variable_count l))

-- the families of nonempty sets within another one
abbrev pub families_within : Family → List Family
families_within family = selections (map (λ xs. filter is_not_empty (subsets xs)) family)

-- ---- Conditions

-- a condition on the tuple of a scope
pub record Arc : Type 0 where
  pub scope : List ℕ
  pub accepted : List ℕ → Bool

-- a truth value, or its contrary
abbrev pub is_wanted : Bool → Bool → Bool
is_wanted true b = b
is_wanted false b = not b

-- that the candidate holds, or that it doesn't
abbrev pub arc_of : Language → Candidate → Bool → Arc
arc_of l c holding = record {
  scope = scope_of l c;
  accepted = λ tuple. is_wanted holding (holds l.value_count (relation_of l c) tuple);
}

-- that those of a list hold, and that the one against them doesn't
abbrev pub arcs_of : Language → List Candidate → Option Candidate → List Arc
arcs_of l list against =
    map (λ c. arc_of l c true) list ++ option_map_or (λ c. arc_of l c false ∷ []) against []

-- those of a search
abbrev pub conditions : Constraints → List Arc
conditions cons = arcs_of cons.lang.now cons.list.now cons.against

-- the sets of a scope's variables
abbrev pub sets_on : Family → List ℕ → List (List ℕ)
sets_on family scope = map (λ v. slice_index_or family v []) scope

-- an accepted tuple inside the sets has this value at this place
abbrev pub has_support : List (List ℕ) → (List ℕ → Bool) → ℕ → ℕ → Bool
has_support sets accepted i x =
    list_any (λ tuple. (slice_index tuple i == x) && accepted tuple) (selections sets)

-- each value of each variable of the scope has an accepted tuple through it inside the family
abbrev pub is_consistent : Family → List ℕ → (List ℕ → Bool) → Bool
is_consistent family scope accepted =
    let sets : List (List ℕ) = sets_on family scope in
    list_all (λ i. list_all (has_support sets accepted i) (slice_index_or sets i []))
    (numbers (length scope))

-- it is so for each condition
abbrev pub is_arc_consistent : List Arc → Family → Bool
is_arc_consistent arcs family = list_all (λ a. is_consistent family a.scope a.accepted) arcs

-- some family of nonempty sets within what an assignment leaves is arc consistent
abbrev pub has_family : Language → List Candidate → Option Candidate → Assignment → Bool
has_family l list against e =
    list_any (is_arc_consistent (arcs_of l list against)) (families_within (left_by l e))

-- ---- The largest arc-consistent family within another

-- each value of each set of the first is in that of the second
abbrev pub IsSubfamily : Family → Family → Type 0
IsSubfamily f g = (v x : ℕ) → has (slice_index_or f v []) x ≡ true →
    has (slice_index_or g v []) x ≡ true

pub record IsLargest (arcs : List Arc) (from family : Family) : Type 0 where
  pub within : IsSubfamily family from
  pub consistent : is_arc_consistent arcs family ≡ true
  pub greatest : (other : Family) → IsSubfamily other from → is_arc_consistent arcs other ≡ true →
      IsSubfamily other family

-- each condition on the variable has an accepted tuple through the value
abbrev pub is_supported : List Arc → Family → ℕ → ℕ → Bool
is_supported arcs family v x =
    list_all (λ a. list_all (λ i. not (slice_index_or a.scope i 0 == v) || has_support
    (sets_on family a.scope) a.accepted i x) (numbers (length a.scope))) arcs

-- the sets of the variables from v on, without the values that have no support in the whole
abbrev pub prune_from : List Arc → Family → ℕ → Family → Family
prune_from arcs whole v [] = []
prune_from arcs whole v (xs ∷ family) =
    filter (is_supported arcs whole v) xs ∷ prune_from arcs whole (v + 1) family

abbrev pub prune : List Arc → Family → Family
prune arcs family = prune_from arcs family 0 family

-- how many values there are
abbrev pub family_size : Family → ℕ
family_size [] = 0
family_size (xs ∷ family) = length xs + family_size family

-- so often
abbrev pub pruned : ℕ → List Arc → Family → Family
pruned zero arcs family = family
pruned (suc k) arcs family = pruned k arcs (prune arcs family)

-- once for each value there is: the largest arc-consistent family within this one
abbrev pub largest : List Arc → Family → Family
largest arcs family = pruned (family_size family) arcs family
