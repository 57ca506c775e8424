-- The lists of closed tables, for the arities 1, 2, 3 and 4.
use Rattle.std.specs.Prelude.{◌≡◌, List, length, map, Vec}
use Rattle.std.specs.declared.alloc.Global.{Global}
use Rattle.rel_table.specs.Table.{TruthTable}
use Rattle.rel_table.specs.declared.closing.Closed.TheInside.{Inside}

abbrev pub lists_in : Inside → List (List TruthTable)
lists_in a = map (λ (tables : Vec TruthTable Global). tables.items) a.lists.items

abbrev pub AreFour : Inside → Type 0
AreFour a = length a.lists.items ≡ 4
