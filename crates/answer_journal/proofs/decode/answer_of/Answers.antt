use Rattle.answer_journal.proofs.Prelude.{sym, arith, options_sound}
use Rattle.answer_journal.proofs.Payloads.{answer_none, answer_other, answer_found}
use Rattle.answer_journal.proofs.decode.answer_of.Goals as goal

pub returns-in_err-question-clause-none : goal.returns-in_err-question-clause-none
returns-in_err-question-clause-none c = rw c.from_residual-in_err-question.ensures (answer_none c.args.payload.now c.in_err-question.ensures)

pub returns-then-valued_count-count-clause-none : goal.returns-then-valued_count-count-clause-none
returns-then-valued_count-count-clause-none c = answer_other c.args.payload.now c.in_ok-question.question c.valued_count.result c.in_ok-question.ensures c.valued_count.ensures c.if-valued_count-count.true

pub returns-clause-found : goal.returns-clause-found
returns-clause-found c = answer_found c.args.payload.now c.in_ok-question.question c.in_ok-yes.yes c.valued_count.result c.in-len2-up.len_at_least c.in_ok-yes.ensures.found c.if-count-eq0.false c.in_ok-question.ensures c.valued_count.ensures c.if-valued_count-count.false
