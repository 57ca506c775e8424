use Rattle.acq_words.proofs.Prelude.{rules}
use Rattle.acq_words.proofs.request.Asked.command.Goals as goal

pub returns-in-Demo-clause-is : goal.returns-in-Demo-clause-is
returns-in-Demo-clause-is c = search rules

pub returns-in-New-clause-is : goal.returns-in-New-clause-is
returns-in-New-clause-is c = search rules

pub returns-in-Try-clause-is : goal.returns-in-Try-clause-is
returns-in-Try-clause-is c = search rules
