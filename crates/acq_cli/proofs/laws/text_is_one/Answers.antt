use Rattle.acq_cli.proofs.OneRun.{text_once}
use Rattle.acq_cli.proofs.laws.text_is_one.Goals as goal

pub returns : goal.returns
returns c = text_once
