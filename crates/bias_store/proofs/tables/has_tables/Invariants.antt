use Rattle.bias_store.proofs.Prelude.{ℕ, ◌<◌, get_or, IsPairTableOn}
use Rattle.bias_store.proofs.tables.has_tables.Given as goal

abbrev pub invariant-loop-r : goal.invariant-loop-r
invariant-loop-r l = (k : ℕ) → k < l.r → IsPairTableOn l.lang l.s k (get_or l.tables k 0)
