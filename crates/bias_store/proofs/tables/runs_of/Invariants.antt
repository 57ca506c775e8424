use Rattle.bias_store.proofs.Prelude.{◌-◌, ◌≤◌, AreRunsFrom}
use Rattle.bias_store.proofs.tables.runs_of.Given as goal

abbrev pub invariant-loop-back : goal.invariant-loop-back
invariant-loop-back l = record {
  runs : AreRunsFrom l.lang l.next.items (l.scopes - l.back);
  some : 1 ≤ l.back;
}
