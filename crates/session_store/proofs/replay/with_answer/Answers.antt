use Rattle.session_store.proofs.Prelude.{◌∙◌, sym, ap, subst, arith, Assignment, variable_count, Session, answer_to, MovesTo, StaysAt, MovesBy, HasNoPlace}
use Rattle.session_store.proofs.Replaying.{some_map, none_map, moves_by, stays_by}
use Rattle.session_store.proofs.replay.with_answer.Goals as goal

pub returns-clause-some : goal.returns-clause-some
returns-clause-some c =
    let s = c.args.session in
    let q = c.args.question.now in
    let Cut : Assignment → Session → Type 0 = λ e next. MovesTo s e c.args.yes next in
    some_map (Cut c.cut_to.result) (MovesBy s (answer_to q c.args.yes)) c.session_answered.result
    (λ next moves. moves_by s q c.args.yes c.n-n.result next (c.n-n.ensures.is ∙ ap variable_count c.lang.ensures.is) (sym c.is_past.ensures ∙ c.if-is_past.false) (let As : Assignment → Type 0 = λ e. Cut e next in subst As c.cut_to.ensures moves)) c.session_answered.ensures.some

pub returns-clause-none : goal.returns-clause-none
returns-clause-none c =
    let s = c.args.session in
    let q = c.args.question.now in
    let Cut : Assignment → Type 0 = λ e. StaysAt s e c.args.yes in
    none_map (Cut c.cut_to.result) (HasNoPlace s (answer_to q c.args.yes)) c.session_answered.result
    (λ stays. stays_by s q c.args.yes c.n-n.result (c.n-n.ensures.is ∙ ap variable_count c.lang.ensures.is) (sym c.is_past.ensures ∙ c.if-is_past.false) (subst Cut c.cut_to.ensures stays)) c.session_answered.ensures.none

pub is_past-requires : goal.is_past-requires
is_past-requires c =
    let few = c.n-n.ensures.lawful.few_variables in
    let is = c.n-n.ensures.is in
    omega arith
