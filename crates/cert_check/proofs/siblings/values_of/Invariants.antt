use Rattle.cert_check.proofs.Prelude.{◌≡◌, ℕ, ◌<◌, ◌≤◌, true, is_one, range_of}
use Rattle.cert_check.proofs.siblings.values_of.Given as goal

abbrev pub invariant-loop-x : goal.invariant-loop-x
invariant-loop-x l = (x : ℕ) → (range_of l.fn.lang l.fn.v).first ≤ x → x < l.x → is_one l.values x ≡ true
