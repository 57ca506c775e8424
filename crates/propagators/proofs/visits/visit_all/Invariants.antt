use Rattle.propagators.proofs.Prelude.{conditions, IsUnderway, AreSettled, AreEntailed}
use Rattle.propagators.proofs.Visiting.{visits_left}
use Rattle.propagators.proofs.visits.visit_all.Given as goal

abbrev pub invariant-loop-v : goal.invariant-loop-v
invariant-loop-v l =
    IsUnderway (conditions l.cons) l.fn.doms l.doms × AreSettled (conditions l.cons) l.changed l.doms × AreEntailed (conditions l.cons) l.plan l.entailed l.doms

abbrev pub decreases-loop-v : goal.decreases-loop-v
decreases-loop-v l = visits_left l.doms l.changed
