use Rattle.bias_store.proofs.Prelude.{◌≡◌, length}
use Rattle.bias_store.proofs.RowMasks.{AreFirstRows}
use Rattle.bias_store.proofs.tables.rows_at.Given as goal

abbrev pub invariant-loop-r : goal.invariant-loop-r
invariant-loop-r l = (length l.rows ≡ 64) × AreFirstRows l.lang l.s l.place l.r l.rows
