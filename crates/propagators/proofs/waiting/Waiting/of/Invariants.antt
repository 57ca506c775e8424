use Rattle.propagators.proofs.Prelude.{◌≡◌, ◌<◌, ◌||◌, ℕ, length, has, IsSet}
use Rattle.propagators.proofs.waiting.Waiting.of.Given as goal

abbrev pub invariant-loop-v : goal.invariant-loop-v
invariant-loop-v l = record {
  goes : (u : ℕ) → u < 128 → has l.fn.set u ≡ (has l.found u || has l.rest u);
  found : IsSet l.found;
}

abbrev pub decreases-loop-v : goal.decreases-loop-v
decreases-loop-v l = length l.rest
