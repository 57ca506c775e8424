use Rattle.propagators.proofs.Prelude.{arith, has_above}
use Rattle.propagators.proofs.FromOn.{rest_from, rest_there, rest_least, rest_none}
use Rattle.propagators.proofs.values.least_from.Goals as goal

pub returns-then-x-ge64-clause-none : goal.returns-then-x-ge64-clause-none
returns-then-x-ge64-clause-none c = λ e z above. has_above c.args.values z (let high = c.if-x-ge64.true in omega arith)

pub returns-then-rest-eq0-clause-none : goal.returns-then-rest-eq0-clause-none
returns-then-rest-eq0-clause-none c = λ e. rest_none c.args.values c.values_between.result c.passing-rest.result c.args.x c.ranges.values.fits c.values_between.ensures c.passing-rest.ensures c.if-rest-eq0.true

pub returns-else-rest-eq0-clause-from : goal.returns-else-rest-eq0-clause-from
returns-else-rest-eq0-clause-from c = rest_from c.args.values c.values_between.result c.passing-rest.result c.args.x c.ranges.values.fits c.values_between.ensures c.passing-rest.ensures c.least_value.result c.least_value.ensures.low c.least_value.ensures.there

pub returns-else-rest-eq0-clause-there : goal.returns-else-rest-eq0-clause-there
returns-else-rest-eq0-clause-there c = rest_there c.args.values c.values_between.result c.passing-rest.result c.args.x c.ranges.values.fits c.values_between.ensures c.passing-rest.ensures c.least_value.result c.least_value.ensures.there

pub returns-else-rest-eq0-clause-least : goal.returns-else-rest-eq0-clause-least
returns-else-rest-eq0-clause-least c = λ z above below. rest_least c.args.values c.values_between.result c.passing-rest.result c.args.x c.ranges.values.fits c.values_between.ensures c.passing-rest.ensures c.least_value.result z c.least_value.ensures.least above below
