use Rattle.language.proofs.Prelude.{widened}
use Rattle.language.proofs.PairOrders.{AreSameBelow}
use Rattle.language.proofs.narrow.comes_before.Given as goal

abbrev pub invariant-loop-x : goal.invariant-loop-x
invariant-loop-x l = AreSameBelow l.d (widened l.ranges l.d l.scope l.one.truth) (widened l.ranges l.d l.scope l.other.truth) l.x
