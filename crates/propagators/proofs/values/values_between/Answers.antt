use Rattle.propagators.proofs.Filled.{has-between}
use Rattle.propagators.proofs.values.values_between.Goals as goal

pub returns : goal.returns
returns c = has-between c.args.first c.args.last c.first_values.result c.first_values-2.result c.first_values.type_inv c.first_values-2.type_inv c.first_values.ensures c.first_values-2.ensures
