use Rattle.bias_store.proofs.Prelude.{◌*◌, Accepts, AreAdded}
use Rattle.bias_store.proofs.tables.add_masks.Given as goal

abbrev pub invariant-loop-row : goal.invariant-loop-row
invariant-loop-row l = AreAdded (Accepts l.lang l.s) l.fn.masks.items l.masks.items (l.row * l.d)
