use Rattle.bias_store.proofs.Prelude.{◌-◌, ◌≤◌, length, AreRowsFrom, IsRow}
use Rattle.bias_store.proofs.tables.rows_of.Given as goal

abbrev pub invariant-loop-back : goal.invariant-loop-back
invariant-loop-back l = record {
  rows : AreRowsFrom l.lang l.first l.rows.items (l.scopes - l.back);
  within : l.end ≤ length l.lang.scopes;
  row : IsRow l.lang l.first (l.scopes - l.back) l.end;
}
