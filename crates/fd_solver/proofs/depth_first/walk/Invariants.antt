use Rattle.fd_solver.proofs.Prelude.{variable_count, IsArranged}
use Rattle.fd_solver.proofs.Turning.{work_left}
use Rattle.fd_solver.proofs.Walking.{IsOn}
use Rattle.fd_solver.proofs.depth_first.walk.Given as goal

abbrev pub invariant-loop-x : goal.invariant-loop-x
invariant-loop-x l = IsOn l.cons.lang.now l.cons.list.now l.cons.against l.order l.budget l.e l.stack l.x l.left × IsArranged l.cons.lang.now l.cons.list.now l.cons.against l.order l.stack l.x l.work

abbrev pub decreases-loop-x : goal.decreases-loop-x
decreases-loop-x l = work_left l.cons.lang.now.value_count (variable_count l.cons.lang.now) l.stack l.x
