use Rattle.cert_check.proofs.Prelude.{◌≡◌, ℕ, ◌<◌, false, repeats_scope}
use Rattle.cert_check.proofs.telling.first_repeated.Given as goal

abbrev pub invariant-loop-i : goal.invariant-loop-i
invariant-loop-i l = (k : ℕ) → k < l.i → repeats_scope l.net k ≡ false
