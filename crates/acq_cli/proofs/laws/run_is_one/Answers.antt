use Rattle.acq_cli.proofs.OneRun.{run_once}
use Rattle.acq_cli.proofs.laws.run_is_one.Goals as goal

pub returns : goal.returns
returns c = run_once
