-- The ranges of values that a vocabulary states.
use Rattle.std.specs.Prelude.{◌≡◌, ◌≢◌, ℕ, ◌+◌, ◌==◌, ℤ, pos, ◌+ℤ◌, ◌≤ℤ◌, ◌<ℤ◌, int_lt, int_le}
use Rattle.std.specs.Prelude.{Bool, ◌&&◌, List, [], ◌∷◌, length, map, replicate, AllPairs, Option}
use Rattle.std.specs.Prelude.{Some, None, Result, Ok, if◌then◌else◌}
use Rattle.std.specs.List.{range_with_len}
use Rattle.std.specs.Option.{ok_or, option_map, option_and_then}
use Rattle.serde_json.specs.Data.{Data, Items, no_items, item}
use Rattle.serde_json.specs.Find.{as_array, as_str}
use Rattle.language.specs.Ranges.{whole_range}
use Rattle.language.specs.Building.{Frame, range_between}
use Rattle.language.specs.declared.ranges.ValueRange.{ValueRange}
use Rattle.voc_read.specs.declared.fault.VocFault.{VocFault}
use Rattle.voc_read.specs.declared.fault.VocFault.TheVariants.{WrongKind, RangeName, BadRange}
use Rattle.voc_read.specs.declared.fault.VocFault.TheVariants.{RangeRepeated}
use Rattle.voc_read.specs.declared.fault.Spot.TheVariants as spot
use Rattle.voc_read.specs.declared.ranges.StatedRange.{StatedRange}
use Rattle.voc_read.specs.declared.ranges.NamedRange.{NamedRange}
use Rattle.voc_read.specs.Answers.{then_on, unless}
use Rattle.voc_read.specs.Names.{first_repeat, variable_number}
use Rattle.voc_read.specs.Values.{whole_number}

-- what a range states: the name of a variable, and the lowest and the highest value
pub record RangeData : Type 0 where
  pub name : List ℕ
  pub lowest : ℤ
  pub highest : ℤ

-- one string and two whole numbers
abbrev pub stated_of : Data → Data → Data → Option RangeData
stated_of name lowest highest =
    option_and_then (λ name. option_and_then (λ lowest. option_map (λ highest.
    record { name = name; lowest = lowest; highest = highest }) (whole_number highest))
    (whole_number lowest)) (as_str name)

-- what a list of them states
abbrev pub range_stated_by : Items → Option RangeData
range_stated_by no_items = None
range_stated_by (item name no_items) = None
range_stated_by (item name (item lowest no_items)) = None
range_stated_by (item name (item lowest (item highest no_items))) = stated_of name lowest highest
range_stated_by (item name (item lowest (item highest (item more rest)))) = None

-- and an array
abbrev pub range_data : Data → Option RangeData
range_data value = option_and_then range_stated_by (as_array value)

abbrev pub stated_range : StatedRange → RangeData
stated_range stated =
    record { name = stated.name.now; lowest = stated.lowest; highest = stated.highest }

-- whether a value is one of so many from the least one on
abbrev pub is_value : ℤ → ℕ → ℤ → Bool
is_value least_value value_count x =
    int_le least_value x && int_lt x (least_value +ℤ pos value_count)

-- why range i is refused by its bounds: the highest is below the lowest, or one of them is no value
abbrev pub bounds_refusal : ℕ → ℤ → ℕ → RangeData → Option VocFault
bounds_refusal i least_value value_count stated =
    if int_le stated.lowest stated.highest && is_value least_value value_count stated.lowest &&
    is_value least_value value_count stated.highest then None else Some (BadRange i)

-- the range of the variable of this number, whose name is stated
pub record VariableRange : Type 0 where
  pub name : List ℕ
  pub variable : ℕ
  pub lowest : ℤ
  pub highest : ℤ

abbrev pub named_range : NamedRange → VariableRange
named_range range = record {
  name = range.name.now;
  variable = range.variable;
  lowest = range.lowest;
  highest = range.highest;
}

-- what is stated for one of these variables, over so many values from the least one on
abbrev pub range_for : ℕ → ℤ → ℕ → List (List ℕ) → RangeData → Result VariableRange VocFault
range_for i least_value value_count names stated =
    then_on (ok_or (variable_number names stated.name) (RangeName i)) (λ variable.
    unless (bounds_refusal i least_value value_count stated) (
    Ok (record {
      name = stated.name;
      variable = variable;
      lowest = stated.lowest;
      highest = stated.highest;
    })))

-- range i
abbrev pub range_stated : ℕ → ℤ → ℕ → List (List ℕ) → Data → Result VariableRange VocFault
range_stated i least_value value_count names value =
    then_on (ok_or (range_data value) (WrongKind (spot.Range i)))
    (range_for i least_value value_count names)

-- the ranges from i on
abbrev pub ranges_from : ℕ → ℤ → ℕ → List (List ℕ) → Items → Result (List VariableRange) VocFault
ranges_from i least_value value_count names no_items = Ok []
ranges_from i least_value value_count names (item value values) =
    then_on (range_stated i least_value value_count names value) (λ range.
    then_on (ranges_from (i + 1) least_value value_count names values) (λ ranges.
    Ok (range ∷ ranges)))

-- the names of the variables that have a range
abbrev pub ranged_names : List VariableRange → List (List ℕ)
ranged_names ranges = map (λ (range : VariableRange). range.name) ranges

-- why the ranges are refused together: two are of one variable
abbrev pub ranges_refusal : List VariableRange → Option VocFault
ranges_refusal ranges =
    option_map (λ pair. RangeRepeated pair.0 pair.1) (first_repeat (ranged_names ranges))

-- ranges of these variables, no two of one
abbrev pub ranges_of : ℤ → ℕ → List (List ℕ) → Items → Result (List VariableRange) VocFault
ranges_of least_value value_count names ranges =
    then_on (ranges_from 0 least_value value_count names ranges)
    (λ found. unless (ranges_refusal found) (Ok found))

-- the values of variable v: those of its range, and all where it has none
abbrev pub values_for : ℤ → ℕ → List VariableRange → ℕ → ValueRange
values_for least_value value_count [] v = whole_range value_count
values_for least_value value_count (range ∷ ranges) v =
    if range.variable == v then range_between least_value range.lowest range.highest
    else values_for least_value value_count ranges v

-- the values of each of n variables
abbrev pub ranges_by : ℕ → ℤ → ℕ → List VariableRange → List ValueRange
ranges_by n least_value value_count ranges =
    map (values_for least_value value_count ranges) (range_with_len 0 n)

-- a range of one of these variables, within the values
pub record IsKnown (names : List (List ℕ)) (least_value : ℤ) (value_count : ℕ)
    (range : VariableRange) : Type 0 where
  pub numbered : variable_number names range.name ≡ Some range.variable
  pub some : range.lowest ≤ℤ range.highest
  pub low : least_value ≤ℤ range.lowest
  pub high : range.highest <ℤ (least_value +ℤ pos value_count)

-- no two are of one variable
abbrev pub HaveDistinctVariables : List VariableRange → Type 0
HaveDistinctVariables ranges =
    AllPairs (λ (one other : VariableRange). one.variable ≢ other.variable) ranges

-- each variable has all values
abbrev pub HasWholeRanges : Frame → Type 0
HasWholeRanges frame = frame.ranges ≡ replicate (length frame.names) (whole_range frame.value_count)

-- the frame where the ranges are those of these, and all values else
abbrev pub with_ranges : Frame → List VariableRange → Frame
with_ranges frame ranges = record {
  names = frame.names;
  least_value = frame.least_value;
  value_count = frame.value_count;
  ranges = ranges_by (length frame.names) frame.least_value frame.value_count ranges;
}
