use Rattle.propagators.proofs.Prelude.{◌-◌, arith}
use Rattle.propagators.proofs.Words.{without_low, without_high}
use Rattle.propagators.proofs.waiting.Waiting.without.Goals as goal

pub returns-then-v-lt64 : goal.returns-then-v-lt64
returns-then-v-lt64 c = without_low c.self.inside.low c.self.inside.high c.args.self c.self.view_is c.args.v c.others.result c.if-v-lt64.true c.others.ensures

pub returns-else-v-lt64 : goal.returns-else-v-lt64
returns-else-v-lt64 c =
    let large = c.if-v-lt64.false in
    without_high c.self.inside.low c.self.inside.high c.args.self c.self.view_is c.args.v (c.args.v - 64) c.others-else-v-lt64.result (omega arith) c.others-else-v-lt64.ensures
