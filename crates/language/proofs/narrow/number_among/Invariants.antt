use Rattle.language.proofs.Prelude.{◌≡◌, ℕ, ◌-◌, ◌<◌, length, slice_index_or}
use Rattle.language.proofs.narrow.number_among.Given as goal

abbrev pub invariant-loop-k : goal.invariant-loop-k
invariant-loop-k l = (j : ℕ) → j < l.k → slice_index_or l.tables j l.table ≡ l.table → ⊥

abbrev pub decreases-loop-k : goal.decreases-loop-k
decreases-loop-k l = length l.tables - l.k
