use Rattle.cert_check.proofs.Prelude.{◌≡◌, List, take, false, All, Answer, candidates, is_uncovered, IsToldBy}
use Rattle.cert_check.proofs.telling.first_uncovered.Given as goal

abbrev pub invariant-loop-number : goal.invariant-loop-number
invariant-loop-number l = (t : List Answer) → IsToldBy l.fn.lang t l.fn.told → All (λ c. is_uncovered l.fn.lang l.fn.net t l.fn.items c ≡ false) (take l.number (candidates l.fn.lang))
