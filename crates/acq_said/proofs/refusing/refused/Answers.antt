use Rattle.acq_said.proofs.Prelude.{◌∙◌, refl, sym, subst, Option, refused_said, Unsaid}
use Rattle.acq_said.proofs.Spoken.{RefusesBy, said_as, silent}
use Rattle.acq_said.proofs.refusing.refused.Goals as goal

pub returns-in-Some-clause-refuses : goal.returns-in-Some-clause-refuses
returns-in-Some-clause-refuses c = subst (λ (o : Option Unsaid). RefusesBy o (refused_said c.args.fault) (silent c.in-Some.why)) (sym c.in-Some.is ∙ c.untold.ensures.is) refl

pub returns-in-None-clause-refuses : goal.returns-in-None-clause-refuses
returns-in-None-clause-refuses c =
    let what = refused_said c.args.fault in
    subst (λ (o : Option Unsaid). RefusesBy o what c.or_silent.result) (sym c.in-None.is ∙ c.untold.ensures.is) (said_as c.refusal.result c.or_silent.result what what c.or_silent.ensures.is refl c.refusal.ensures)
