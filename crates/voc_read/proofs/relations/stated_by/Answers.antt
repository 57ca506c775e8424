use Rattle.std.proofs.Common.{rules}
use Rattle.voc_read.proofs.relations.stated_by.Goals as goal

pub returns-in_err-check_keys-clause-is : goal.returns-in_err-check_keys-clause-is
returns-in_err-check_keys-clause-is c = search rules

pub returns-in_err-name-clause-is : goal.returns-in_err-name-clause-is
returns-in_err-name-clause-is c = search rules

pub returns-in_err-arity-clause-is : goal.returns-in_err-arity-clause-is
returns-in_err-arity-clause-is c = search rules

pub returns-in_err-stated-clause-is : goal.returns-in_err-stated-clause-is
returns-in_err-stated-clause-is c = search rules

pub returns-in_err-name-2-clause-is : goal.returns-in_err-name-2-clause-is
returns-in_err-name-2-clause-is c = search rules

pub returns-in_err-arity-2-clause-is : goal.returns-in_err-arity-2-clause-is
returns-in_err-arity-2-clause-is c = search rules

pub returns-in_err-rule-clause-is : goal.returns-in_err-rule-clause-is
returns-in_err-rule-clause-is c = search rules

pub returns-clause-is : goal.returns-clause-is
returns-clause-is c = search rules
