use Rattle.acq_said.proofs.Prelude.{false, refl, back_on}
use Rattle.acq_said.proofs.Spoken.{said_as}
use Rattle.acq_said.proofs.back.taken_or_silent.Goals as goal

pub returns-in-None-clause-says : goal.returns-in-None-clause-says
returns-in-None-clause-says c is = said_as c.taken.result c.or_silent.result (back_on c.args.m false) (back_on c.args.m false) c.or_silent.ensures.is refl c.taken.ensures
