use Rattle.cert_check.proofs.Prelude.{◌≡◌, take, false, All, is_other}
use Rattle.cert_check.proofs.telling.first_other.Given as goal

abbrev pub invariant-loop-i : goal.invariant-loop-i
invariant-loop-i l = All (λ a. is_other l.fn.lang l.fn.net a ≡ false) (take l.i l.answers)
