use Rattle.par_screen.proofs.Prelude.{AreMarksFor, MarksHold}
use Rattle.par_screen.proofs.forked.take_searched.Given as goal

abbrev pub invariant-loop-part : goal.invariant-loop-part
invariant-loop-part l = record {
  made : AreMarksFor l.fn.lang l.screen;
  holds : MarksHold l.fn.lang l.fn.net.list l.fn.budget l.screen;
}
