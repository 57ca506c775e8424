use Rattle.acq_said.proofs.Prelude.{refl, ap, inl, Solves}
use Rattle.acq_said.proofs.Journals.{not_opened, over_opened, over_refused}
use Rattle.acq_said.proofs.Spoken.{ok_any}
use Rattle.acq_said.proofs.solving.solve_journal.Goals as goal

pub returns-in-Ok-clause-says : goal.returns-in-Ok-clause-says
returns-in-Ok-clause-says g c =
    let ok = c.in-Ok.ensures in
    let call = c.open.ensures in
    let Says = Solves (g.S.Source.left c.args.input.now) (g.S.Source.left c.solved.new.input) in
    over_opened g.D.Disk Says (λ o. Unit {0}) c.args.disk.now c.open.new.disk c.solved.result call.only_read.same call.only_read.any_moment call.few_calls c.in-Ok.store
    ok.opened ok.some ok.sound.read ok.places (ok.sits ok.live) c.solved.ensures.says (ok_any c.solved.result tt)

pub returns-in-Err-clause-says : goal.returns-in-Err-clause-says
returns-in-Err-clause-says g c =
    let err = c.in-Err.ensures in
    let call = c.open.ensures in
    let left = g.S.Source.left c.args.input.now in
    over_refused g.D.Disk (Solves left left) (λ o. Unit {0}) c.args.disk.now c.open.new.disk c.refused.result call.only_read.same call.only_read.any_moment call.few_calls
    c.in-Err.fault err.refused err.some (inl err.synced) (c.refused.ensures.refuses, refl)

pub returns-in-Err-clause-lost : goal.returns-in-Err-clause-lost
returns-in-Err-clause-lost g c is = c.in-Err.ensures.failed (ap not_opened (c.refused.ensures.lost is))
