use Rattle.net_cnf.proofs.Prelude.{◌≡◌, ℕ, ◌<◌, false, get_or, Candidate, violates}
use Rattle.net_cnf.proofs.reading.violated.Given as goal

abbrev pub invariant-loop-i : goal.invariant-loop-i
invariant-loop-i l = (k : ℕ) (d : Candidate) → k < l.i → violates l.lang (get_or l.fn.net.list k d) l.e ≡ false
