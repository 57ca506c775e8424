use Rattle.bias_store.proofs.Prelude.{◌≤◌, ◌*◌, length}
use Rattle.bias_store.specs.Made.{IsMadeOfScopes}
use Rattle.bias_store.proofs.Tabled.{AreTabled}
use Rattle.bias_store.proofs.tables.Tables.of.Given as goal

abbrev pub invariant-loop-s : goal.invariant-loop-s
invariant-loop-s l = record {
  made : IsMadeOfScopes l.lang l.made;
  tabled : AreTabled l.lang l.first.items l.made.masks.items l.s;
  room : length l.made.masks.items ≤ 65536 * l.s;
}
