use Rattle.par_screen.proofs.Prelude.{IsTakenTo, part_start}
use Rattle.par_screen.proofs.forked.take_parts.Given as goal

abbrev pub invariant-loop-part : goal.invariant-loop-part
invariant-loop-part l = IsTakenTo l.fn.lang l.fn.net.list l.fn.kept.members l.fn.budget (part_start l.fn.lang l.part) l.screen
