use Rattle.acq_said.proofs.Prelude.{◌≡◌, ◌∙◌, refl, ap, Err, model_of, solution_said, solved_said}
use Rattle.acq_io.specs.declared.whole.AllFault.TheVariants as all
use Rattle.acq_said.proofs.Moved.{of_keeper}
use Rattle.acq_said.proofs.Spoken.{fault_of, fine, long_one, said_as}
use Rattle.acq_said.proofs.solving.solved.Goals as goal

pub returns-in-Ok-clause-says : goal.returns-in-Ok-clause-says
returns-in-Ok-clause-says g c =
    let has = c.learned_by.ensures in
    let what = solved_said (fine c.in-Ok.bytes.items) (of_keeper g.P.Keep c.args.keep.now) in
    let same : solution_said c.learned_by.result.0.now (model_of c.learned_by.result.0.now c.learned_by.result.1.now.list c.deref.result.now) ≡ what =
    λ i. solution_said (has.lang i) (model_of (has.lang i) (has.same i) (c.deref.ensures.value i)) in
    (fine c.in-Ok.bytes.items, (c.in-Ok.ensures.all, said_as c.modelled.result c.or_silent.result _ what c.or_silent.ensures.is same c.modelled.ensures))

pub returns-in-Err-TooLong-clause-says : goal.returns-in-Err-TooLong-clause-says
returns-in-Err-TooLong-clause-says g c =
    let what = solved_said long_one (of_keeper g.P.Keep c.args.keep.now) in
    (long_one, (c.read_all.ensures.too_long (c.in-Err-TooLong.is ∙ ap fault_of c.in-Err-TooLong.field-0-is), said_as c.refused_model.result c.or_silent-in-Err-TooLong.result what what c.or_silent-in-Err-TooLong.ensures.is refl c.refused_model.ensures))

pub returns-in-Err-Fault-clause-says : goal.returns-in-Err-Fault-clause-says
returns-in-Err-Fault-clause-says g c = (Err all.Fault, refl)

pub returns-in-Err-Memory-clause-says : goal.returns-in-Err-Memory-clause-says
returns-in-Err-Memory-clause-says g c = (Err all.Memory, refl)
