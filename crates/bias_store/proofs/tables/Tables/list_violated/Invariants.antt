use Rattle.bias_store.proofs.Prelude.{◌-◌, length}
use Rattle.bias_store.proofs.Within.{AreHits}
use Rattle.bias_store.proofs.tables.Tables.list_violated.Given as goal

abbrev pub invariant-loop-found : goal.invariant-loop-found
invariant-loop-found l = AreHits l.fn.lang l.fn.q l.fn.left l.sets l.count l.from

abbrev pub decreases-loop-found : goal.decreases-loop-found
decreases-loop-found l = length l.fn.lang.scopes - l.from
