use Rattle.session_store.proofs.Prelude.{subst, List, Answer, Language, IsLanguage, standing_on, Stands, Session, lang_held, events_held}
use Rattle.session_store.proofs.Storables.{storable}
use Rattle.session_store.proofs.held.Held.question.Goals as goal

pub returns-clause-storable : goal.returns-clause-storable
returns-clause-storable c =
    let asking = c.in-Asking.asking in
    let l : Language = asking.knowledge.value.lang in
    let t : List Answer = standing_on (lang_held c.args.self.now) (events_held c.args.self.now) in
    let Here : Session → Type 0 = λ s. Stands s t in
    let lawful : IsLanguage l = subst IsLanguage c.lang-lang.ensures.is c.lang-lang.ensures.lawful in
    storable l lawful asking.knowledge.value.plan t c.question.result c.question.ensures.fits (c.question.ensures.asked t (subst Here c.in-Asking.is c.session.ensures.stands))
