use Rattle.cert_check.proofs.Prelude.{◌≡◌, ◌*◌, take, false, All, is_unearned}
use Rattle.cert_check.proofs.checking.first_unearned_forked.Given as goal

abbrev pub invariant-loop-chunk : goal.invariant-loop-chunk
invariant-loop-chunk g l = All (λ r. is_unearned l.fn.lang l.fn.net r ≡ false) (take (l.chunk * l.size) l.fn.items)
