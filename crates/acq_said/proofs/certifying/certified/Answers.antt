use Rattle.acq_said.proofs.Prelude.{◌∙◌, ap, subst, inr, length, certificate_made, standing_on, TellsEnd, certificate_said, terms_with, network_led_to, next_after}
use Rattle.acq_said.specs.declared.ask.Ask.TheVariants as ask
use Rattle.acq_said.proofs.Certified.{more_said}
use Rattle.acq_said.proofs.Moved.{of_keeper, says_asked}
use Rattle.acq_said.proofs.SaidOver.{unconverged_said}
use Rattle.acq_said.proofs.certifying.certified.Goals as goal

pub returns-in-Ok-false : goal.returns-in-Ok-false
returns-in-Ok-false g c =
    let o = of_keeper g.P.Keep c.args.keep.now in
    let t = standing_on o.lang o.events in
    let terms = terms_with o.plan c.args.budget in
    let more = subst (TellsEnd o.lang terms t) c.in-Ok-false.field-0-test c.in-Ok-false.ensures in
    says_asked (ask.Certify c.args.budget) o c.unconverged.result _
    (ap unconverged_said (c.answers.ensures ∙ c.session.ensures.stands.knows.count) ∙ more_said (next_after o.lang terms t) (certificate_said (certificate_made o.voc o.lang (network_led_to o) t c.args.budget)) (unconverged_said (length t)) more)
    (inr more) c.unconverged.ensures
