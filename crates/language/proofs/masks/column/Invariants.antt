use Rattle.language.proofs.Prelude.{go_together}
use Rattle.language.proofs.ByNames.{IsMaskOf}
use Rattle.language.proofs.masks.column.Given as goal

abbrev pub invariant-loop-x : goal.invariant-loop-x
invariant-loop-x l = IsMaskOf (λ x. go_together l.table.value_count l.table.truth x l.y) l.x l.column
