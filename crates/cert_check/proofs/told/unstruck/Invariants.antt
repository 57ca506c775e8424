use Rattle.cert_check.proofs.Prelude.{take, AreUnstruck}
use Rattle.cert_check.proofs.told.unstruck.Given as goal

abbrev pub invariant-loop-entry : goal.invariant-loop-entry
invariant-loop-entry l = AreUnstruck l.fn.lang (take l.entry-index l.answers) l.list.items
