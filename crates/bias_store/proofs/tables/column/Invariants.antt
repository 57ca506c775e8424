use Rattle.bias_store.proofs.Prelude.{◌==◌, get_or, bit_at}
use Rattle.language.proofs.ByNames.{IsMaskOf}
use Rattle.bias_store.proofs.tables.column.Given as goal

abbrev pub invariant-loop-r : goal.invariant-loop-r
invariant-loop-r l = IsMaskOf (λ r. bit_at (get_or l.words r 0) l.y == 1) l.r l.bits
