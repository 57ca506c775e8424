use Rattle.propagators.proofs.Prelude.{◌≡◌, ◌<◌, ℕ, [], false, slice_index_or, has, HasMore}
use Rattle.propagators.proofs.visits.first_changed.Given as goal

abbrev pub invariant-loop-v : goal.invariant-loop-v
invariant-loop-v l = (u : ℕ) → u < l.v → has l.changed u ≡ false → HasMore (slice_index_or l.plan.limits.items u 0) (slice_index_or l.doms u [])
