use Rattle.net_cnf.proofs.Prelude.{◌≡◌, ℕ, ◌<◌, false, get_or, Signs}
use Rattle.net_cnf.proofs.Marking.{is_both}
use Rattle.net_cnf.proofs.reading.twice.Given as goal

abbrev pub invariant-loop-place : goal.invariant-loop-place
invariant-loop-place l = (j : ℕ) (d : Signs) → j < l.place → is_both (get_or l.signs j d) ≡ false
