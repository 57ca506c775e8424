use Rattle.acq_said.proofs.Prelude.{◌≡◌, ◌∙◌, sym, ap, subst, codes, Stands, knowledge_of, open_in, Session, state_after, reading_text, busy_from}
use Rattle.session_core.specs.Settled.{IsSettled}
use Rattle.acq_said.proofs.Showing.{asking_text}
use Rattle.acq_said.proofs.shows.state_word.Goals as goal

pub returns-in-Asking : goal.returns-in-Asking
returns-in-Asking c t =
    let k = c.in-Asking.asking.knowledge.value in
    let q = c.question-question.result in
    let P : Session → Type 0 = λ x. Stands x t → IsSettled (knowledge_of x).lang (knowledge_of x).plan t (open_in x) → codes "asking" ≡ reading_text (state_after (knowledge_of x).lang (knowledge_of x).plan t) in
    subst P (sym c.in-Asking.is)
    (λ stands settled.
    let asked = c.question-question.ensures.asked t stands in
    let busy = busy_from k.lang k.plan t q _ asked.state c.question-question.ensures.is settled asked.at in
    asking_text k.lang k.plan t q asked.state busy asked.asked ∙ ap reading_text (sym asked.at))
