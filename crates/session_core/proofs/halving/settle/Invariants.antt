use Rattle.session_core.proofs.Settling.{GoesOn}
use Rattle.session_core.proofs.halving.settle.Given as goal

abbrev pub invariant-loop-turn : goal.invariant-loop-turn
invariant-loop-turn l = GoesOn l.lang l.kept.members l.e l.size l.fn.next l.turn l.next
