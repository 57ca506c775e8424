use Rattle.session_core.proofs.Prelude.{List, Candidate, AreUnlearned, NoneBefore}
use Rattle.session_core.proofs.scopes.first_run.Given as goal

abbrev pub invariant-loop-s : goal.invariant-loop-s
invariant-loop-s l = (network : List Candidate) → AreUnlearned l.kept.members network → NoneBefore l.lang l.kept.members network l.fn.from → NoneBefore l.lang l.kept.members network l.s
