use Rattle.acq_said.proofs.Prelude.{◌∙◌}
use Rattle.acq_said.proofs.Certified.{certifiable, certified_so}
use Rattle.acq_said.proofs.Moved.{of_keeper}
use Rattle.acq_said.proofs.certifying.certify_converged.Goals as goal

pub certificate-requires-clause-certifiable : goal.certificate-requires-clause-certifiable
certificate-requires-clause-certifiable g c =
    certifiable c.args.budget (of_keeper g.P.Keep c.args.keep.now) _ _ c.learned_by.ensures _ _ _ c.requires.voc c.list.ensures (c.deref.ensures.value ∙ c.in-Ok.ensures) c.requires.read c.requires.done

pub returns : goal.returns
returns g c =
    certified_so c.args.budget (of_keeper g.P.Keep c.args.keep.now) _ _ c.learned_by.ensures _ _ _ c.requires.voc c.list.ensures (c.deref.ensures.value ∙ c.in-Ok.ensures) c.requires.read c.requires.done
    c.certificate.result c.certificate.ensures
