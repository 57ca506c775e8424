use Rattle.acq_loop.proofs.Prelude.{◌≤◌, length, standing_on, Keeps, IsAdded, StepsTo, point_of, terms_with}
use Rattle.session_store.specs.Keeps.{IsSameSession}
use Rattle.acq_loop.specs.Loop.{HasReadAndWritten, IsReadyToTurn}
use Rattle.acq_loop.specs.Turn.{ServesOn}
use Rattle.acq_loop.proofs.driving.drive.Given as goal

abbrev pub invariant-loop-turn : goal.invariant-loop-turn
invariant-loop-turn g l =
    let P = g.P.Keep in let S = g.S.Source in let K = g.K.Sink in let T = g.T.Teacher in
    let old = l.initial in let lang = P.lang old.keep in
    let terms = terms_with (P.plan old.keep) l.fn.budget in
    record {
      ready : IsReadyToTurn (P.lang l.keep) (terms_with (P.plan l.keep) l.fn.budget) (standing_on (P.lang l.keep) (P.record_of l.keep)) (P.question l.keep) l.places l.screen;
      same : IsSameSession P old.keep l.keep;
      steps : StepsTo (T.turn old.teacher) lang terms (point_of (P.record_of old.keep) (S.left old.source) (K.written old.sink)) (point_of (P.record_of l.keep) (S.left l.source) (K.written l.sink));
      faults : HasReadAndWritten (S.left old.source) (S.left l.source) (S.faults old.source) (S.faults l.source) (S.late old.source) (S.late l.source) (K.faults old.sink) (K.faults l.sink) ⊥ ⊥;
      serves : ServesOn T.turn T.fits T.may_say T.reads lang old.teacher l.teacher old.source l.source l.places;
      added : IsAdded lang (P.plan old.keep) (T.may_say old.teacher lang) (P.record_of old.keep) (P.record_of l.keep);
      keeps : Keeps P g.D.Disk ⊥ (λ e. ⊥) old.keep l.keep old.disk l.disk;
      more : l._turn ≤ length (P.record_of l.keep);
    }
