-- What a JSON value is, read as a part of a vocabulary.
use Rattle.std.specs.Prelude.{ℕ, ℤ, List, [], ◌∷◌, Option, Some, None}
use Rattle.std.specs.Option.{option_map, option_and_then}
use Rattle.serde_json.specs.Data.{Data, Items, no_items, item}
use Rattle.serde_json.specs.Find.{as_number, as_i64, as_str, as_array}

-- a whole number of 64 bits
abbrev pub whole_number : Data → Option ℤ
whole_number value = option_and_then as_i64 (as_number value)

-- what each value of a list is read as, where each is read
abbrev pub each_of : {A : Type 0} → (Data → Option A) → Items → Option (List A)
each_of read no_items = Some []
each_of read (item value values) =
    option_and_then (λ x. option_map (λ xs. x ∷ xs) (each_of read values)) (read value)

-- an array of such values
abbrev pub list_of : {A : Type 0} → (Data → Option A) → Data → Option (List A)
list_of read value = option_and_then (each_of read) (as_array value)

-- an array of strings
abbrev pub text_list : Data → Option (List (List ℕ))
text_list = list_of as_str

-- an array of whole numbers
abbrev pub number_list : Data → Option (List ℤ)
number_list = list_of whole_number

-- an array of arrays of whole numbers
abbrev pub tuple_list : Data → Option (List (List ℤ))
tuple_list = list_of number_list

-- two numbers
abbrev pub both_of : List ℤ → Option (ℤ × ℤ)
both_of (low ∷ high ∷ []) = Some (low, high)
both_of [] = None
both_of (low ∷ []) = None
both_of (low ∷ high ∷ more ∷ rest) = None

-- an array of two whole numbers
abbrev pub number_pair : Data → Option (ℤ × ℤ)
number_pair value = option_and_then both_of (number_list value)
