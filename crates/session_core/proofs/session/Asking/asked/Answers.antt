use Rattle.session_core.proofs.Prelude.{◌≡◌, ◌∙◌, sym, ap, subst, Assignment, IsLanguage, IsQuestion, Knowledge, Asking, IsAskedAfter, question_put}
use Rattle.session_core.proofs.Questions.{put_fits}
use Rattle.session_core.proofs.Opened.{open_asked}
use Rattle.session_core.proofs.session.Asking.asked.Goals as goal

pub returns-clause-fits : goal.returns-clause-fits
returns-clause-fits c =
    let asking : Asking = c.args.self.now in
    let k : Knowledge = asking.knowledge.value in
    let lawful = subst (λ (x : Knowledge). IsLanguage x.lang) c.deref.ensures c.n-variables.ensures.lawful in
    let is : c.deref-2.result.now.question ≡ question_put k.lang asking.put.value = ap (λ (x : Knowledge). x.question) c.deref-2.ensures ∙ asking.asked in
    subst (IsQuestion k.lang) (sym is) (put_fits k lawful asking.put.value asking.sound)

pub returns-clause-asked : goal.returns-clause-asked
returns-clause-asked c = λ t stands.
    let asking : Asking = c.args.self.now in
    let k : Knowledge = asking.knowledge.value in
    let is : c.deref-2.result.now.question ≡ question_put k.lang asking.put.value = ap (λ (x : Knowledge). x.question) c.deref-2.ensures ∙ asking.asked in
    subst (λ (q : Assignment). IsAskedAfter k.lang k.plan t q) (sym is) (open_asked asking t stands)
