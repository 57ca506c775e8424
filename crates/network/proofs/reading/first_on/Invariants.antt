use Rattle.network.proofs.Prelude.{◌≡◌, ℕ, ◌<◌, false, get_or, ◌==◌, Candidate}
use Rattle.network.proofs.reading.first_on.Given as goal

abbrev pub invariant-loop-j : goal.invariant-loop-j
invariant-loop-j l = (k : ℕ) (d : Candidate) → k < l.j → ((get_or l.net.list k d).scope == l.s) ≡ false
