use Rattle.query_gen.proofs.Prelude.{sym, ◌∙◌, ap, outcome_of_candidate, byte_for}
use Rattle.query_gen.proofs.Parts.{found_next, absent_next, spent_next}
use Rattle.query_gen.proofs.part.search_candidate.Goals as goal

pub returns-in-Found-clause-byte : goal.returns-in-Found-clause-byte
returns-in-Found-clause-byte c =
    ap byte_for (sym c.in-Found.is ∙ c.outcome_of.ensures)

pub returns-in-Found-clause-answer : goal.returns-in-Found-clause-answer
returns-in-Found-clause-answer c =
    found_next c.args.answer.now (outcome_of_candidate c.args.lang.now c.args.net.now.list c.args.c c.args.budget) c.in-Found.e c.requires.none (sym c.outcome_of.ensures ∙ c.in-Found.is)

pub returns-in-Absent-clause-byte : goal.returns-in-Absent-clause-byte
returns-in-Absent-clause-byte c =
    ap byte_for (sym c.in-Absent.is ∙ c.outcome_of.ensures)

pub returns-in-Absent-clause-answer : goal.returns-in-Absent-clause-answer
returns-in-Absent-clause-answer c =
    absent_next c.args.answer.now (outcome_of_candidate c.args.lang.now c.args.net.now.list c.args.c c.args.budget) (sym c.outcome_of.ensures ∙ c.in-Absent.is)

pub returns-in-Spent-clause-byte : goal.returns-in-Spent-clause-byte
returns-in-Spent-clause-byte c =
    ap byte_for (sym c.in-Spent.is ∙ c.outcome_of.ensures)

pub returns-in-Spent-clause-answer : goal.returns-in-Spent-clause-answer
returns-in-Spent-clause-answer c =
    spent_next c.args.answer.now (outcome_of_candidate c.args.lang.now c.args.net.now.list c.args.c c.args.budget) c.requires.none (sym c.outcome_of.ensures ∙ c.in-Spent.is)
