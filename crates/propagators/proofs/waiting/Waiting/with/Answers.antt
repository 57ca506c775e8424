use Rattle.propagators.proofs.Prelude.{◌-◌, arith}
use Rattle.propagators.proofs.Words.{with_low, with_high}
use Rattle.propagators.proofs.waiting.Waiting.with.Goals as goal

pub returns-then-v-lt64 : goal.returns-then-v-lt64
returns-then-v-lt64 c = with_low c.self.inside.low c.self.inside.high c.args.self c.self.view_is c.args.v c.add_value.result c.if-v-lt64.true c.add_value.ensures

pub returns-else-v-lt64 : goal.returns-else-v-lt64
returns-else-v-lt64 c =
    let large = c.if-v-lt64.false in
    with_high c.self.inside.low c.self.inside.high c.args.self c.self.view_is c.args.v (c.args.v - 64) c.add_value-else-v-lt64.result (omega arith) c.add_value-else-v-lt64.ensures
