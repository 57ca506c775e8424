use Rattle.bias_store.proofs.Prelude.{◌-◌, ◌≤◌, length, AreNoneViolated}
use Rattle.bias_store.proofs.tables.Tables.next_violated.Given as goal

abbrev pub invariant-loop-s : goal.invariant-loop-s
invariant-loop-s l = record {
  ahead : l.fn.from ≤ l.s;
  within : l.s ≤ length l.lang.scopes;
  none : AreNoneViolated l.lang l.q l.left l.fn.from l.s;
}

abbrev pub decreases-loop-s : goal.decreases-loop-s
decreases-loop-s l = length l.lang.scopes - l.s
