use Rattle.propagators.proofs.Cutting.{IsCutting}
use Rattle.propagators.proofs.revising.cut_all.Given as goal

abbrev pub invariant-loop-j : goal.invariant-loop-j
invariant-loop-j l = IsCutting l.scope l.found l.fn.doms l.j l.doms l.changed
