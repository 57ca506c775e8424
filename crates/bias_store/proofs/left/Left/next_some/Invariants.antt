use Rattle.bias_store.proofs.Prelude.{◌≡◌, ℕ, ◌-◌, ◌<◌, ◌≤◌, get_or}
use Rattle.bias_store.proofs.left.Left.next_some.Given as goal

abbrev pub invariant-loop-s : goal.invariant-loop-s
invariant-loop-s l = record {
  ahead : l.fn.from ≤ l.s;
  within : l.s ≤ l.fn.end;
  none : (k : ℕ) → l.fn.from ≤ k → k < l.s → get_or l.self k 0 ≡ 0;
}

abbrev pub decreases-loop-s : goal.decreases-loop-s
decreases-loop-s l = l.fn.end - l.s
