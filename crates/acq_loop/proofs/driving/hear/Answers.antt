use Rattle.acq_loop.proofs.Prelude.{ℕ, ◌≡◌, ◌∙◌, ap, sym, subst, refl, arith, Assignment, Language, knowledge_of, open_in, HearsReply}
use Rattle.acq_loop.proofs.Standings.{at_turn, next_fits}
use Rattle.session_core.proofs.Turning.{same_some}
use Rattle.acq_loop.proofs.driving.hear.Goals as goal

pub overflow_add-count : goal.overflow_add-count
overflow_add-count g c =
    let s = c.args.session.now in
    let k = knowledge_of s in
    let at = at_turn s k.lang c.lang.result.now k.plan c.requires.stands.0 c.answers-count.result c.requires.stands.1 refl refl c.answers-count.ensures c.lang.ensures.is c.lang.ensures.lawful in
    let fits = next_fits _ _ _ _ _ at in omega arith

pub returns-clause-hears : goal.returns-clause-hears
returns-clause-hears g c q is =
    let k = knowledge_of c.args.session.now in
    let told = c.told-told.ensures in
    let lang : Language = c.lang.result.now in
    let put : Assignment = c.asked-question.result.now in
    let same : put ≡ q = same_some put q (sym c.asked-question.ensures.is ∙ sym (ap open_in c.in-Asking.is) ∙ is) in
    let Heard' : Language → Assignment → ℕ → Type 0 = λ m p n.
    HearsReply (g.T.Teacher.turn c.args.teacher.now) (g.T.Teacher.may_say c.args.teacher.now) m p n (g.S.Source.left c.args.source.now) (g.K.Sink.written c.args.sink.now)
    (g.S.Source.left c.told-told.new.source) (g.K.Sink.written c.told-told.new.sink) c.heard_of.result in
    subst (λ (m : Language). Heard' m q k.answers) c.lang.ensures.is (subst (λ (p : Assignment). Heard' lang p k.answers) same
    (subst (Heard' lang put) c.answers-count.ensures (record { word = c.told-told.result; is = c.heard_of.ensures; tells = told.tells; asks = told.asks; says = told.says; back = told.back })))
