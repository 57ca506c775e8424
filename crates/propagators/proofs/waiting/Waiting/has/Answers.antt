use Rattle.propagators.proofs.Prelude.{◌≡◌, ◌+◌, ◌-◌, ◌∙◌, sym, ap, arith, has}
use Rattle.propagators.proofs.Words.{has_low, has_high}
use Rattle.propagators.proofs.waiting.Waiting.has.Goals as goal

pub returns-then-v-lt64 : goal.returns-then-v-lt64
returns-then-v-lt64 c = c.has_value.ensures ∙ sym (has_low c.self.inside.low c.self.inside.high c.args.self c.self.view_is c.args.v c.if-v-lt64.true)

pub returns-else-v-lt64 : goal.returns-else-v-lt64
returns-else-v-lt64 c =
    let large = c.if-v-lt64.false in
    let few = c.requires in
    c.has_value-else-v-lt64.ensures ∙ sym (has_high c.self.inside.low c.self.inside.high c.args.self c.self.view_is (c.args.v - 64) (omega arith)) ∙ ap (has c.args.self) (let e : c.args.v - 64 + 64 ≡ c.args.v = omega arith in e)
