use Rattle.acq_cli.proofs.SomeText.{some_text}
use Rattle.acq_cli.proofs.laws.each_has_a_text.Goals as goal

pub returns : goal.returns
returns c = some_text
