use Rattle.acq_said.proofs.Prelude.{◌∙◌, subst, Language, AreMarksFor, network_in}
use Rattle.query_gen.proofs.Marking.{no_marks_hold}
use Rattle.par_screen.specs.Eighths.{AreMadeFor}
use Rattle.acq_said.proofs.certifying.has_converged.Goals as goal

-- nothing was searched for yet
pub next_of-requires-clause-ready : goal.next_of-requires-clause-ready
next_of-requires-clause-ready g c κs within =
    let P = g.P.Keep in
    let l : Language = P.lang c.args.keep.now in
    let same = c.lang-lang.ensures.is ∙ c.session.ensures.lang in
    let Equipped : Language → Type 0 = λ m. AreMadeFor m c.in_ok-places.places in
    let Made : Language → Type 0 = λ m. AreMarksFor m c.in_ok-screen.screen in
    record {
      settled = c.requires.settled;
      equipped = subst Equipped same c.in_ok-places.ensures.made;
      made = subst Made same c.in_ok-screen.ensures.made;
      hold = λ state at. no_marks_hold l (network_in state) c.args.budget c.in_ok-screen.screen c.in_ok-screen.ensures.unmarked;
      affordable = c.requires.budget;
    }
