-- The fields of a table as the relation that they stand for.
use Rattle.rel_table.specs.Table.{TruthTable, IsTable}
use Rattle.rel_table.specs.declared.table.Table.TheInside.{Inside}

abbrev pub seen : Inside → TruthTable
seen a = record { arity = a.arity; value_count = a.value_count; truth = a.truth }

abbrev pub IsSound : Inside → Type 0
IsSound a = IsTable (seen a)
