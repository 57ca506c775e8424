use Rattle.acq_cli.proofs.Prelude.{map, string_bytes}
use Rattle.acq_cli.proofs.Asked.{is_asked, is_refused}
use Rattle.acq_cli.proofs.top.command_asked.Goals as goal

pub returns-in-Ok-clause-is : goal.returns-in-Ok-clause-is
returns-in-Ok-clause-is c = is_asked (map string_bytes c.args.words.now) c.in-Ok.request c.in-Ok.ensures.is

pub returns-in-Err-clause-is : goal.returns-in-Err-clause-is
returns-in-Err-clause-is c = is_refused (map string_bytes c.args.words.now) c.in-Err.fault c.in-Err.ensures.is
