use Rattle.acq_cli.proofs.Enough.{budget_is_enough}
use Rattle.acq_cli.proofs.laws.budget_is_enough.Goals as goal

pub returns : goal.returns
returns c = budget_is_enough
