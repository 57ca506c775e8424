use Rattle.acq_said.proofs.Prelude.{ap, sym, inl, subst, Result, IfOk, AsksTruly, asked_said, IsSaid, Saying, Unsaid}
use Rattle.acq_said.proofs.Journals.{not_opened, opened_in, over_opened, over_refused}
use Rattle.acq_said.proofs.Moved.{said_asked}
use Rattle.acq_said.proofs.Spoken.{SaysOpening}
use Rattle.acq_said.proofs.over.say_over.Goals as goal

pub asked-requires-clause-read : goal.asked-requires-clause-read
asked-requires-clause-read g c κs within = c.vocabulary.ensures.read c.in-Ok.ensures.sound

pub returns-in-Ok-clause-says : goal.returns-in-Ok-clause-says
returns-in-Ok-clause-says g c =
    let ok = c.in-Ok.ensures in
    let call = c.open.ensures in
    let So : Result Saying Unsaid → Type 0 = λ r. IsSaid (asked_said c.args.ask (opened_in c.in-Ok.store)) r × IfOk r (λ _. AsksTruly c.args.ask (opened_in c.in-Ok.store)) in
    let said = subst So (sym c.or_silent.ensures.is) (said_asked c.args.ask (opened_in c.in-Ok.store) c.asked.result c.asked.ensures) in
    over_opened g.D.Disk (SaysOpening (asked_said c.args.ask)) (AsksTruly c.args.ask) c.args.disk.now c.open.new.disk c.or_silent.result call.only_read.same call.only_read.any_moment call.few_calls c.in-Ok.store
    ok.opened ok.some ok.sound.read ok.places (ok.sits ok.live) said.0 said.1

pub returns-in-Err-clause-says : goal.returns-in-Err-clause-says
returns-in-Err-clause-says g c =
    let err = c.in-Err.ensures in
    let call = c.open.ensures in
    over_refused g.D.Disk (SaysOpening (asked_said c.args.ask)) (AsksTruly c.args.ask) c.args.disk.now c.open.new.disk c.refused.result call.only_read.same call.only_read.any_moment call.few_calls
    c.in-Err.fault err.refused err.some (inl err.synced) c.refused.ensures.refuses

pub returns-in-Err-clause-lost : goal.returns-in-Err-clause-lost
returns-in-Err-clause-lost g c is = c.in-Err.ensures.failed (ap not_opened (c.refused.ensures.lost is))
