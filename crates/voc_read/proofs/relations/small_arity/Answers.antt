use Rattle.voc_read.proofs.Prelude.{rules}
use Rattle.voc_read.proofs.relations.small_arity.Goals as goal

pub returns-in-Ok-clause-is : goal.returns-in-Ok-clause-is
returns-in-Ok-clause-is c = search rules

pub returns-in-Err-clause-is : goal.returns-in-Err-clause-is
returns-in-Err-clause-is c = search rules
