use Rattle.std.proofs.Common.{rules}
use Rattle.cert_check.proofs.Walking.{at_question}
use Rattle.cert_check.proofs.walk.is_lawful.Goals as goal

pub satisfies-requires-clause-question : goal.satisfies-requires-clause-question
satisfies-requires-clause-question c = at_question c.args.lang.now c.requires.lawful c.args.c c.requires.candidate c.args.values.now c.args.e.now c.requires.at

pub violates_item-requires-clause-question : goal.violates_item-requires-clause-question
violates_item-requires-clause-question c = at_question c.args.lang.now c.requires.lawful c.args.c c.requires.candidate c.args.values.now c.args.e.now c.requires.at

pub returns-in-Branch : goal.returns-in-Branch
returns-in-Branch c = search rules
