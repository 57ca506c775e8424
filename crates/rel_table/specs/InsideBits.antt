-- The fields of packed truth values as the list that they stand for.
use Rattle.std.specs.Prelude.{List, Bool}
use Rattle.rel_table.specs.Bits.{values_of, IsPacked}
use Rattle.rel_table.specs.declared.bits.Bits.TheInside.{Inside}

abbrev pub truth_values : Inside → List Bool
truth_values a = values_of a.words.items a.count

abbrev pub IsLawful : Inside → Type 0
IsLawful a = IsPacked a.words.items a.count
