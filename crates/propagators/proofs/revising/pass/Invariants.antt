use Rattle.propagators.proofs.Prelude.{conditions}
use Rattle.propagators.proofs.Rounds.{IsPassing}
use Rattle.propagators.proofs.revising.pass.Given as goal

abbrev pub invariant-loop-i : goal.invariant-loop-i
invariant-loop-i l = IsPassing (conditions l.cons) l.fn.changed l.fn.doms l.i l.next l.doms
