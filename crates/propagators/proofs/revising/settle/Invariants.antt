use Rattle.propagators.proofs.Prelude.{conditions, IsUnderway, AreSettled}
use Rattle.propagators.proofs.Rounds.{turns_left}
use Rattle.propagators.proofs.revising.settle.Given as goal

abbrev pub invariant-loop-changed : goal.invariant-loop-changed
invariant-loop-changed l =
    IsUnderway (conditions l.cons) l.fn.doms l.doms × AreSettled (conditions l.cons) l.changed l.doms

abbrev pub decreases-loop-changed : goal.decreases-loop-changed
decreases-loop-changed l = turns_left l.doms l.changed
