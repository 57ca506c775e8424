use Rattle.cert_check.proofs.Prelude.{◌≡◌, take, false, All, is_unearned}
use Rattle.cert_check.proofs.checking.first_unearned.Given as goal

abbrev pub invariant-loop-i : goal.invariant-loop-i
invariant-loop-i l = All (λ r. is_unearned l.fn.lang l.fn.net r ≡ false) (take l.i l.items)
