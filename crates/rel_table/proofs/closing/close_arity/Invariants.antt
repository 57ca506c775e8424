use Rattle.rel_table.proofs.Prelude.{take, IsClosed}
use Rattle.rel_table.proofs.closing.close_arity.Given as goal

abbrev pub invariant-loop-table : goal.invariant-loop-table
invariant-loop-table g l = IsClosed l.arity g.d (take l.table-index l.file) l.closed.items
