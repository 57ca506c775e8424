use Rattle.propagators.proofs.Prelude.{◌≡◌, ◌*◌, ◌^◌, ◌∙◌, sym, ap, arith, mul_assoc}
use Rattle.propagators.proofs.Sweeping.{power_one, power_two, power_three}
use Rattle.propagators.proofs.openings.step_of.Goals as goal

pub returns-then-after-eq1 : goal.returns-then-after-eq1
returns-then-after-eq1 c = c.from-d.ensures ∙ sym (ap (λ k. c.args.d ^ k) c.if-after-eq1.true ∙ power_one c.args.d)

pub returns-then-after-eq2 : goal.returns-then-after-eq2
returns-then-after-eq2 c = (λ i. c.from-d.ensures i * c.from-d.ensures i) ∙ sym (ap (λ k. c.args.d ^ k) c.if-after-eq2.true ∙ power_two c.args.d)

pub returns-else-after-eq2 : goal.returns-else-after-eq2
returns-else-after-eq2 c =
    let one = c.if-after-eq1.false in
    let two = c.if-after-eq2.false in
    let some = c.requires.some in
    let few = c.requires.few in
    let three : c.args.after ≡ 3 = omega arith in
    (λ i. c.from-d.ensures i * c.from-d.ensures i * c.from-d.ensures i) ∙ mul_assoc c.args.d c.args.d c.args.d ∙ sym (ap (λ k. c.args.d ^ k) three ∙ power_three c.args.d)
