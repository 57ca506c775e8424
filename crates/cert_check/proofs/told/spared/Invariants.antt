use Rattle.cert_check.proofs.Prelude.{take, AreSpared}
use Rattle.cert_check.proofs.told.spared.Given as goal

abbrev pub invariant-loop-entry : goal.invariant-loop-entry
invariant-loop-entry l = AreSpared l.fn.lang (take l.entry-index l.answers) l.list.items
