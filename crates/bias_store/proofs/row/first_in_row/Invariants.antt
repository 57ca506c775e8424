use Rattle.bias_store.proofs.Prelude.{◌-◌, ◌≤◌, length, AreNoneIn}
use Rattle.bias_store.proofs.row.first_in_row.Given as goal

abbrev pub invariant-loop-from : goal.invariant-loop-from
invariant-loop-from l = record {
  within : l.from ≤ length l.fn.relations;
  none : AreNoneIn l.fn.q l.fn.relations l.fn.accepting l.fn.second l.from;
}

abbrev pub decreases-loop-from : goal.decreases-loop-from
decreases-loop-from l = length l.fn.relations - l.from
