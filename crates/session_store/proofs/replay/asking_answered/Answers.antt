use Rattle.session_store.proofs.Prelude.{◌≡◌, ◌∙◌, sym, ap, subst, Some, both_ways, Assignment, State, At, IsAskedIn, answer_to, questions_have_places}
use Rattle.session_store.proofs.Replaying.{opened, other_stays, busy_from, moved_to}
use Rattle.session_store.proofs.replay.asking_answered.Goals as goal
use Rattle.session_laws.proofs.States.{same_state}

pub returns-then-equals-clause-some : goal.returns-then-equals-clause-some
returns-then-equals-clause-some c =
    let k = c.args.asking.knowledge.value in
    let q : Assignment = c.args.question.now in
    let there : Assignment = c.question-open.result in
    let same : there ≡ q = c.equals.ensures.0 c.if-equals.true in
    record {
      lang = c.answer.ensures.lang;
      plan = c.answer.ensures.plan;
      moves = λ t state at.
          let asked = c.question-open.ensures.asked t at.stands in
          let Asked : State → Type 0 = λ s. IsAskedIn k.lang k.plan t there s in
          let here = subst Asked (same_state asked.state state (sym asked.at ∙ at.at)) asked.asked in
          let busy = busy_from k.lang k.plan t there _ state c.question-open.ensures.is at.settled at.at in
          let is = opened k.lang k.plan t there state busy here in
          let stands = c.answer.ensures.stands t q (c.question-open.ensures.is ∙ ap (λ (e : Assignment). Some e) same) at.stands in
          moved_to k.lang k.plan t (answer_to q c.args.yes) state c.answer.result at.at (questions_have_places.opened k.lang k.plan t state q c.args.yes (is ∙ ap (λ (e : Assignment). Some e) same))
          c.answer.ensures.lang c.answer.ensures.plan stands (c.answer.ensures.settled _ stands);
    }

pub returns-else-equals-clause-none : goal.returns-else-equals-clause-none
returns-else-equals-clause-none c =
    let k = c.args.asking.knowledge.value in
    let q : Assignment = c.args.question.now in
    let there : Assignment = c.question-open.result in
    record {
      none = λ t state at.
          let asked = c.question-open.ensures.asked t at.stands in
          let Asked : State → Type 0 = λ s. IsAskedIn k.lang k.plan t there s in
          let here = subst Asked (same_state asked.state state (sym asked.at ∙ at.at)) asked.asked in
          let busy = busy_from k.lang k.plan t there _ state c.question-open.ensures.is at.settled at.at in
          other_stays k.lang k.plan t there q c.args.yes state busy (opened k.lang k.plan t there state busy here) (λ same. both_ways c.equals.result c.if-equals.false (c.equals.ensures.1 same));
    }
