use Rattle.session_core.proofs.Prelude.{sym, ◌∙◌, and_from, eq-eqb, question_is}
use Rattle.session_core.proofs.examples.is_question.Goals as goal

pub returns-then-len-n-clause-question : goal.returns-then-len-n-clause-question
returns-then-len-n-clause-question c = λ h.
    question_is c.args.lang.now c.n.ensures.lawful c.args.q.now
    (and_from _ _ (eq-eqb _ _ (sym c.len.ensures.len ∙ c.if-len-n.true ∙ c.n.ensures.is)) (sym c.are_values_ranged.ensures ∙ h))
