use Rattle.cert_check.proofs.Values.{IsFoundSoFar}
use Rattle.cert_check.proofs.siblings.Siblings.of.Given as goal

abbrev pub invariant-loop-i : goal.invariant-loop-i
invariant-loop-i l = IsFoundSoFar l.lang l.net l.v l.e l.row l.i-index l.free l.items
