use Rattle.acq_cli.proofs.Prelude.{ends_as, ends_ok, ends_part, refl, said_as, voc_refused}
use Rattle.acq_cli.proofs.top.refuse.Goals as goal

pub returns-clause-ok : goal.returns-clause-ok
returns-clause-ok g c =
    let what = voc_refused c.args.fault in
    ends_ok what.ending what.text _ _ c.put.result (ends_as what c.or_silent.result _ _ c.put.result (said_as c.refused_voc.result c.or_silent.result what what c.or_silent.ensures.is refl c.refused_voc.ensures) c.put.ensures.writes)

pub returns-clause-part : goal.returns-clause-part
returns-clause-part g c =
    let what = voc_refused c.args.fault in
    ends_part what.ending what.text _ _ c.put.result (ends_as what c.or_silent.result _ _ c.put.result (said_as c.refused_voc.result c.or_silent.result what what c.or_silent.ensures.is refl c.refused_voc.ensures) c.put.ensures.writes)
