use Rattle.acq_said.proofs.Prelude.{◌≡◌, false, Some, Event, back_on, keeps_as}
use Rattle.assign.specs.declared.events.Event.TheVariants as event
use Rattle.acq_loop.specs.declared.driving.Drove.TheVariants as drove
use Rattle.acq_said.specs.declared.said.Unsaid.TheVariants as unsaid
use Rattle.acq_said.proofs.Spoken.{silent}
use Rattle.acq_said.proofs.TakenBack.{ends_kept}
use Rattle.acq_said.proofs.back.take_last.Goals as goal

pub returns-clause-ends : goal.returns-clause-ends
returns-clause-ends g c =
    let said = c.taken_or_silent.ensures in
    ends_kept (back_on c.args.m false) _ _ c.keep_event-kept.result c.taken_or_silent.result c.keep_event-kept.ensures.kept said.says said.memory said.lost.0

pub returns-clause-keeps : goal.returns-clause-keeps
returns-clause-keeps g c =
    let Lost : Event → Type 0 = λ lost. lost ≡ event.Back in
    let lost = c.taken_or_silent.ensures.lost in
    keeps_as g.D.Disk g.met.D.Disk.counts_now g.met.D.Disk.only_now g.P.Keep (c.keep_event-kept.result ≡ Some drove.DiskFault) (c.taken_or_silent.result ≡ silent unsaid.DiskFault) Lost Lost c.args.keep.now c.keep_event-kept.new.keep
    c.args.disk.now c.keep_event-kept.new.disk lost.1 lost.0 (λ failed e is. is) c.keep_event-kept.ensures.keeps
