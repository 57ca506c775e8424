use Rattle.acq_cli.proofs.Prelude.{refl, said_as, silent_not, target_refused}
use Rattle.acq_said.specs.declared.said.Unsaid.TheVariants as unsaid
use Rattle.acq_cli.proofs.playing.untargeted.Goals as goal

pub returns-clause-says : goal.returns-clause-says
returns-clause-says c =
    let what = target_refused c.args.fault in
    said_as c.refused_target.result c.or_silent.result what what c.or_silent.ensures.is refl c.refused_target.ensures

pub returns-clause-no_read : goal.returns-clause-no_read
returns-clause-no_read c is = silent_not c.refused_target.result c.or_silent.result unsaid.ReadFault (λ e. cc) c.or_silent.ensures.is is

pub returns-clause-no_disk : goal.returns-clause-no_disk
returns-clause-no_disk c is = silent_not c.refused_target.result c.or_silent.result unsaid.DiskFault (λ e. cc) c.or_silent.ensures.is is
