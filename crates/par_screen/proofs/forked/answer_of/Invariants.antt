use Rattle.par_screen.proofs.Prelude.{◌≡◌}
use Rattle.par_screen.proofs.Eighths.{says}
use Rattle.par_screen.proofs.forked.answer_of.Given as goal

abbrev pub invariant-loop-part : goal.invariant-loop-part
invariant-loop-part l = l.answer ≡ says l.lang l.net.list l.kept.members l.budget l.part
