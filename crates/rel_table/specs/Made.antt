-- Which tables can be made of tuples, and what they accept.
use Rattle.std.specs.Prelude.{◌≡◌, ℕ, ◌+◌, ◌^◌, ◌<◌, List, [], ◌∷◌, length, map, slice_index_or}
use Rattle.std.specs.Prelude.{Bool, false, ◌&&◌, nat_eq, nat_le, if◌then◌else◌, ℤ, pos, negsuc}
use Rattle.std.specs.Prelude.{◌-ℤ◌, ◌+ℤ◌, int_lt, int_le, unsigned_abs, Option, Some, None, Result}
use Rattle.std.specs.Prelude.{Ok, Err, Vec}
use Rattle.std.specs.List.{list_all, list_any}
use Rattle.std.specs.Option.{option_or}
use Rattle.std.specs.declared.alloc.Global.{Global}
use Rattle.rel_table.specs.Relation.{place}
use Rattle.rel_table.specs.Table.{TruthTable}
use Rattle.rel_table.specs.declared.table.TableFault.{TableFault}
use Rattle.rel_table.specs.declared.table.TableFault.TheVariants.{BadArity, TupleLength, ValueOut}
use Rattle.rel_table.specs.declared.table.TableFault.TheVariants.{TooLarge}

-- an arity of 1 to 4
abbrev pub arity_of : ℤ → Option ℕ
arity_of (pos a) = if nat_le 1 a && nat_le a 4 then Some a else None
arity_of (negsuc a) = None

-- the number of tuples, or why there are none
abbrev pub size_for : Option ℕ → ℕ → Result ℕ TableFault
size_for None d = Err BadArity
size_for (Some a) d = if nat_le (d ^ a) 65536 then Ok (d ^ a) else Err TooLarge

abbrev pub size_of : ℤ → ℕ → Result ℕ TableFault
size_of arity d = size_for (arity_of arity) d

-- a shown value is in the domain
abbrev pub is_shown : ℤ → ℕ → ℤ → Bool
is_shown lo d x = int_le lo x && int_lt x (lo +ℤ pos d)

-- the index of a shown value
abbrev pub index_of : ℤ → ℤ → ℕ
index_of lo x = unsigned_abs (x -ℤ lo)

abbrev pub place_of_shown : ℤ → ℕ → List ℤ → ℕ
place_of_shown lo d tuple = place d (map (index_of lo) tuple)

-- what is wrong with tuple i
abbrev pub tuple_fault : ℕ → ℤ → ℕ → ℕ → List ℤ → Option TableFault
tuple_fault a lo d i tuple =
    if nat_eq (length tuple) a
    then (if list_all (is_shown lo d) tuple then None else Some (ValueOut i))
    else Some (TupleLength i)

-- the first tuple that is wrong, where the first is number i
abbrev pub first_fault : ℕ → ℤ → ℕ → ℕ → List (List ℤ) → Option TableFault
first_fault a lo d i [] = None
first_fault a lo d i (tuple ∷ tuples) =
    option_or (tuple_fault a lo d i tuple) (first_fault a lo d (i + 1) tuples)

-- why no table is made of these tuples
abbrev pub refusal_from : Result ℕ TableFault → Option TableFault → Option TableFault
refusal_from (Err e) fault = Some e
refusal_from (Ok size) fault = fault

abbrev pub refusal_for : Option ℕ → ℤ → ℕ → List (List ℤ) → Option TableFault
refusal_for None lo d tuples = Some BadArity
refusal_for (Some a) lo d tuples = refusal_from (size_for (Some a) d) (first_fault a lo d 0 tuples)

abbrev pub refusal_of : ℤ → ℤ → ℕ → List (List ℤ) → Option TableFault
refusal_of arity lo d tuples = refusal_for (arity_of arity) lo d tuples

-- the places of the tuples are true, and no others
abbrev pub Marks : ℤ → ℕ → List (List ℤ) → List Bool → Type 0
Marks lo d tuples truth = (at : ℕ) → at < length truth →
    slice_index_or truth at false ≡ list_any (λ tuple. nat_eq (place_of_shown lo d tuple) at) tuples

-- the relation accepts exactly the tuples
pub record IsMade (arity lo : ℤ) (d : ℕ) (tuples : List (List ℤ)) (table : TruthTable) :
    Type 0 where
  pub long : arity_of arity ≡ Some table.arity
  pub values : table.value_count ≡ d
  pub right : refusal_of arity lo d tuples ≡ None
  pub each : Marks lo d tuples table.truth

-- what the vectors hold
abbrev pub lists : List (Vec ℤ Global) → List (List ℤ)
lists = map (λ v. v.items)
