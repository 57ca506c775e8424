use Rattle.query_gen.proofs.Prelude.{sym, ap, outcome_of_candidate, byte_for}
use Rattle.query_gen.proofs.Parts.{absent_next, spent_next}
use Rattle.query_gen.proofs.part.byte_of.Goals as goal

pub returns-in-Implied-clause-byte : goal.returns-in-Implied-clause-byte
returns-in-Implied-clause-byte c =
    sym (ap byte_for (c.requires.implied c.in-Implied.is))

pub returns-in-Implied-clause-answer : goal.returns-in-Implied-clause-answer
returns-in-Implied-clause-answer c =
    absent_next c.args.answer.now (outcome_of_candidate c.args.lang.now c.args.net.now.list c.args.c c.args.budget) (c.requires.implied c.in-Implied.is)

pub returns-in-Spent-clause-byte : goal.returns-in-Spent-clause-byte
returns-in-Spent-clause-byte c =
    sym (ap byte_for (c.requires.spent c.in-Spent.is))

pub returns-in-Spent-clause-answer : goal.returns-in-Spent-clause-answer
returns-in-Spent-clause-answer c =
    spent_next c.args.answer.now (outcome_of_candidate c.args.lang.now c.args.net.now.list c.args.c c.args.budget) c.requires.none (c.requires.spent c.in-Spent.is)
