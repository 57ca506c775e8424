use Rattle.rel_formula.proofs.Prelude.{◌≡◌, ℕ, ◌+◌, ◌<◌, ◌+ℤ◌, length, get_or, pos}
use Rattle.rel_formula.proofs.tables.counted.Given as goal

abbrev pub invariant-loop-k : goal.invariant-loop-k
invariant-loop-k l = record {
  len : length l.values ≡ 16;
  done : (i : ℕ) → i < l.k → get_or l.values i (pos 0) ≡ l.fn.lo +ℤ pos (l.fn.first + i);
}
