use Rattle.cert_check.proofs.Prelude.{◌≡◌, length}
use Rattle.assign.specs.Sets.{ones_of}
use Rattle.cert_check.proofs.Values.{IsPutSoFar}
use Rattle.cert_check.proofs.siblings.put.Given as goal

abbrev pub invariant-loop-left : goal.invariant-loop-left
invariant-loop-left l = record { put : IsPutSoFar l.fn.values l.left l.fn.i l.fn.items l.items; size : length l.items ≡ 64 }

abbrev pub decreases-loop-left : goal.decreases-loop-left
decreases-loop-left l = length (ones_of l.left)
