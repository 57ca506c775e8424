use Rattle.target_oracle.proofs.Prelude.{◌≡◌, ◌+◌, ◌<◌, ℕ, length, get_or, Some, None, state_at, draw}
use Rattle.target_oracle.proofs.generator.hidden_values.Given as goal

abbrev pub invariant-loop-v : goal.invariant-loop-v
invariant-loop-v l = record {
  size : length l.values ≡ 10;
  state : l.state ≡ state_at l.number l.v;
  drawn : (k : ℕ) → k < l.v → get_or l.values k None ≡ Some (draw l.number (k + 1) 3);
}
