use Rattle.language.proofs.Prelude.{◌≡◌, ℕ, ◌<◌, true, false, get_or, not, ◌||◌, widened}
use Rattle.language.proofs.narrow.is_part_on.Given as goal

abbrev pub invariant-loop-place : goal.invariant-loop-place
invariant-loop-place l = (k : ℕ) → k < l.place → (not (get_or (widened l.ranges l.value_count l.scope l.table.truth) k false) || get_or (widened l.ranges l.value_count l.scope l.other.truth) k false) ≡ true
