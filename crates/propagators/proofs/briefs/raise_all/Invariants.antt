use Rattle.propagators.proofs.Prelude.{◌<◌, ◌≤◌, ℕ, slice_index_or}
use Rattle.propagators.proofs.briefs.raise_all.Given as goal

abbrev pub invariant-loop-v : goal.invariant-loop-v
invariant-loop-v l = record {
  there : (j : ℕ) → j < l.v-index → 64 ≤ slice_index_or l.limits (slice_index_or l.scope j 0) 0;
  grows : (u : ℕ) → slice_index_or l.fn.limits u 0 ≤ slice_index_or l.limits u 0;
}
