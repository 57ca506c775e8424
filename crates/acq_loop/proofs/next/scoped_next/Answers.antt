use Rattle.acq_loop.proofs.Prelude.{◌∙◌, sym, subst, refl, IsLanguage}
use Rattle.acq_loop.proofs.Nexts.{scoped_new, scoped_done}
use Rattle.acq_loop.proofs.next.scoped_next.Goals as goal

pub returns-in-Some-clause-next : goal.returns-in-Some-clause-next
returns-in-Some-clause-next c t budget stands =
    let new = scoped_new c.args.idle.now.knowledge.value t budget stands.after.end stands.after.idle stands.knows c.requires.plan c.in-Some.question (sym c.in-Some.is ∙ c.scope_question.ensures.is c.requires.plan) in
    (new.0, refl, new.1)

pub returns-in-None-clause-next : goal.returns-in-None-clause-next
returns-in-None-clause-next c t budget stands =
    scoped_done c.args.idle.now.knowledge.value t budget stands.after.end stands.after.idle stands.knows (subst IsLanguage c.lang-lang.ensures.is c.lang-lang.ensures.lawful) c.requires.plan (sym c.in-None.is ∙ c.scope_question.ensures.is c.requires.plan)
