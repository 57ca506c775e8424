use Rattle.std.proofs.Common.{rules}
use Rattle.cert_check.proofs.sections.value_in.Goals as goal

pub returns-in_err-x-clause-is : goal.returns-in_err-x-clause-is
returns-in_err-x-clause-is c = search rules

pub returns-clause-is : goal.returns-clause-is
returns-clause-is c = search rules

pub returns-clause-within : goal.returns-clause-within
returns-clause-within c = search rules
