-- The names of variables and of relations.
use Rattle.std.specs.Prelude.{ℕ, not, List, [], ◌∷◌, ◌++◌, length, position, Option, Some, None}
use Rattle.std.specs.Prelude.{if◌then◌else◌}
use Rattle.std.specs.List.{list_any, position_or_len}
use Rattle.std.specs.Option.{option_map, option_or}
use Rattle.std.specs.Str.{bytes_eq}
use Rattle.language.specs.Language.{is_name}
use Rattle.voc_read.specs.declared.fault.VocFault.{VocFault}
use Rattle.voc_read.specs.declared.fault.VocFault.TheVariants.{BadName, NameRepeated}

-- the number of the first name that doesn't have the form of one
abbrev pub first_bad : List (List ℕ) → Option ℕ
first_bad names = position (λ name. not (is_name name)) names

-- the first of these names that stands before: the number where it stood first, and its own, which
-- counts the names before
unfoldable pub repeat_after : List (List ℕ) → List (List ℕ) → Option (ℕ × ℕ)
repeat_after before [] = None
repeat_after before (name ∷ names) =
    if list_any (bytes_eq name) before
    then Some (position_or_len (bytes_eq name) before, length before)
    else repeat_after (before ++ name ∷ []) names

-- the first name that repeats an earlier one: the number of that one, and its own
abbrev pub first_repeat : List (List ℕ) → Option (ℕ × ℕ)
first_repeat names = repeat_after [] names

-- the number of the variable of this name
abbrev pub variable_number : List (List ℕ) → List ℕ → Option ℕ
variable_number names name = position (bytes_eq name) names

-- why the names of the variables are refused
abbrev pub names_refusal : List (List ℕ) → Option VocFault
names_refusal names = option_or (option_map BadName (first_bad names))
    (option_map (λ pair. NameRepeated pair.0 pair.1) (first_repeat names))
