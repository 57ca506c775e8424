use Rattle.bias_store.proofs.Prelude.{AreAdded}
use Rattle.bias_store.specs.Made.{AcceptBy}
use Rattle.bias_store.proofs.tables.add_pair_masks.Given as goal

abbrev pub invariant-loop-place : goal.invariant-loop-place
invariant-loop-place l = AreAdded (AcceptBy l.lang l.tables) l.fn.masks.items l.masks.items l.place
