use Rattle.acq_said.proofs.Prelude.{refl, sym, subst, SFault, SaysRefusal, voc_refused}
use Rattle.acq_said.proofs.Spoken.{RefusesMaking, said_as}
use Rattle.acq_said.proofs.making.unmade.Goals as goal

pub returns-in-Voc-clause-refuses : goal.returns-in-Voc-clause-refuses
returns-in-Voc-clause-refuses c =
    let what = voc_refused c.in-Voc.fault in
    subst (λ (f : SFault). RefusesMaking f c.or_silent.result) (sym c.in-Voc.is) (said_as c.refused_voc.result c.or_silent.result what what c.or_silent.ensures.is refl c.refused_voc.ensures)

pub returns-in-Journal-clause-refuses : goal.returns-in-Journal-clause-refuses
returns-in-Journal-clause-refuses c = subst (λ (f : SFault). SaysRefusal f c.refused.result → RefusesMaking f c.refused.result) (sym c.in-Journal.is) (λ says. says) c.refused.ensures.refuses

pub returns-in-Stray-clause-refuses : goal.returns-in-Stray-clause-refuses
returns-in-Stray-clause-refuses c = subst (λ (f : SFault). SaysRefusal f c.refused-in-Stray.result → RefusesMaking f c.refused-in-Stray.result) (sym c.in-Stray.is) (λ says. says) c.refused-in-Stray.ensures.refuses

pub returns-in-Memory-clause-refuses : goal.returns-in-Memory-clause-refuses
returns-in-Memory-clause-refuses c = subst (λ (f : SFault). SaysRefusal f c.refused-in-Memory.result → RefusesMaking f c.refused-in-Memory.result) (sym c.in-Memory.is) (λ says. says) c.refused-in-Memory.ensures.refuses
