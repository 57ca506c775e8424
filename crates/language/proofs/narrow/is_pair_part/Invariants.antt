use Rattle.language.proofs.Prelude.{widened}
use Rattle.language.proofs.PairOrders.{IsPartBelow}
use Rattle.language.proofs.narrow.is_pair_part.Given as goal

abbrev pub invariant-loop-x : goal.invariant-loop-x
invariant-loop-x l = IsPartBelow l.table.value_count (widened l.ranges l.table.value_count l.scope l.table.truth) (widened l.ranges l.table.value_count l.scope l.other.truth) l.x
