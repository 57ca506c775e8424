use Rattle.bias_store.proofs.Prelude.{ℕ, ◌+◌, List, Accepts, AreAdded}
use Rattle.bias_store.proofs.tables.add_row.Given as goal

abbrev pub invariant-loop-y : goal.invariant-loop-y
invariant-loop-y l = (before : List ℕ) → AreAdded (Accepts l.lang l.s) before l.fn.masks.items l.place → AreAdded (Accepts l.lang l.s) before l.masks.items (l.place + l.y)
