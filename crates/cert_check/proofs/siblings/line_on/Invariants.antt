use Rattle.cert_check.proofs.Prelude.{scope_at}
use Rattle.cert_check.proofs.OnLine.{IsLineSoFar}
use Rattle.cert_check.proofs.siblings.line_on.Given as goal

abbrev pub invariant-loop-w : goal.invariant-loop-w
invariant-loop-w l = IsLineSoFar l.lang.value_count l.v l.e (scope_at l.lang l.s) l.w-index l.place l.stride
