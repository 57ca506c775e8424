use Rattle.cert_check.proofs.Prelude.{◌≡◌, List, take, false, not, All, Answer, has_own_no, IsToldBy}
use Rattle.cert_check.proofs.telling.first_without_no.Given as goal

abbrev pub invariant-loop-i : goal.invariant-loop-i
invariant-loop-i l = (t : List Answer) → IsToldBy l.fn.lang t l.fn.told → All (λ c. not (has_own_no l.fn.lang t c) ≡ false) (take l.i l.net)
