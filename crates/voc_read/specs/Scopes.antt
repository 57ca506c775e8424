-- The scopes that a vocabulary lists.
use Rattle.std.specs.Prelude.{ℕ, ◌+◌, List, [], ◌∷◌, Option, Some, None, Result, Ok}
use Rattle.std.specs.Option.{ok_or, option_map, option_and_then}
use Rattle.serde_json.specs.Data.{Data, Items, no_items, item}
use Rattle.voc_read.specs.declared.fault.VocFault.{VocFault}
use Rattle.voc_read.specs.declared.fault.VocFault.TheVariants.{WrongKind, UnknownVariable}
use Rattle.voc_read.specs.declared.fault.Spot.TheVariants as spot
use Rattle.voc_read.specs.Answers.{then_on}
use Rattle.voc_read.specs.Names.{variable_number}
use Rattle.voc_read.specs.Values.{text_list}

-- the numbers of the variables of these names, where each is the name of one
abbrev pub numbers_of : List (List ℕ) → List (List ℕ) → Option (List ℕ)
numbers_of names [] = Some []
numbers_of names (name ∷ more) = option_and_then (λ v.
    option_map (λ vs. v ∷ vs) (numbers_of names more)) (variable_number names name)

-- the variables of scope i, in the order in which they are listed
abbrev pub scope_stated : ℕ → List (List ℕ) → Data → Result (List ℕ) VocFault
scope_stated i names value =
    then_on (ok_or (text_list value) (WrongKind (spot.Scope i)))
    (λ listed. ok_or (numbers_of names listed) (UnknownVariable i))

-- the scopes from i on
abbrev pub scopes_from : ℕ → List (List ℕ) → Items → Result (List (List ℕ)) VocFault
scopes_from i names no_items = Ok []
scopes_from i names (item value values) =
    then_on (scope_stated i names value) (λ scope.
    then_on (scopes_from (i + 1) names values) (λ scopes.
    Ok (scope ∷ scopes)))

-- the scopes that are listed, where they are
abbrev pub scopes_stated : List (List ℕ) → Option Items → Result (Option (List (List ℕ))) VocFault
scopes_stated names None = Ok None
scopes_stated names (Some items) = then_on (scopes_from 0 names items) (λ scopes. Ok (Some scopes))
