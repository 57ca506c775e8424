-- The items of a network by the variables of their scopes.
use Rattle.std.specs.Prelude.{ℕ, Bool, false, IsTrue, List, length, map, Vec, slice_get}
use Rattle.std.specs.Option.{option_map_or}
use Rattle.std.specs.List.{filter}
use Rattle.std.specs.declared.alloc.Global.{Global}
use Rattle.assign.specs.Sets.{numbers, has}
use Rattle.assign.specs.Assignment.{Assignment}
use Rattle.language.specs.declared.candidates.Candidate.{Candidate}
use Rattle.language.specs.Language.{Language, variable_count, scope_of}
use Rattle.cert_check.specs.declared.by_variable.ByVariable.TheInside.{Inside}
use Rattle.cert_check.specs.Refuting.{violates_item}

-- whether the network has an item of this number, and its scope has the variable
abbrev pub has_variable : Language → List Candidate → ℕ → ℕ → Bool
has_variable l network v i = option_map_or (λ c. has (scope_of l c) v) (slice_get network i) false

-- the numbers of the items whose scope has the variable, rising
abbrev pub items_on : Language → List Candidate → ℕ → List ℕ
items_on l network v = filter (has_variable l network v) (numbers (length network))

-- those of each variable
abbrev pub by_variable : Language → List Candidate → List (List ℕ)
by_variable l network = map (items_on l network) (numbers (variable_count l))

-- the rows that the fields stand for
abbrev pub rows_of_fields : Inside → List (List ℕ)
rows_of_fields a = map (λ (row : Vec ℕ Global). row.items) a.rows.items

-- each item that is violated has the variable in its scope
abbrev pub AreOn : Language → List Candidate → ℕ → Assignment → Type 0
AreOn l network v e = (i : ℕ) → IsTrue (violates_item l network e i) →
    IsTrue (has_variable l network v i)
