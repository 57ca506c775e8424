use Rattle.session_core.proofs.Prelude.{sym, ◌∙◌, subst, IsLanguage, Knowledge}
use Rattle.session_core.proofs.Scoped.{about_put_first, about_put}
use Rattle.session_core.proofs.session.Asking.scope.Goals as goal

pub returns-in-FirstTuple : goal.returns-in-FirstTuple
returns-in-FirstTuple c =
    let k : Knowledge = c.args.self.now.knowledge.value in
    let lawful = subst (λ (x : Knowledge). IsLanguage x.lang) c.deref.ensures c.n-variables.ensures.lawful in
    about_put_first k lawful c.args.self.now.put.value c.in-FirstTuple.run' c.scope.result (sym c.deref-2.ensures ∙ c.in-FirstTuple.is) c.args.self.now.sound c.scope.ensures

pub returns-in-Tuple : goal.returns-in-Tuple
returns-in-Tuple c =
    let k : Knowledge = c.args.self.now.knowledge.value in
    let lawful = subst (λ (x : Knowledge). IsLanguage x.lang) c.deref.ensures c.n-variables.ensures.lawful in
    about_put k lawful c.args.self.now.put.value c.in-Tuple.run' c.scope-in-Tuple.result (sym c.deref-2.ensures ∙ c.in-Tuple.is) c.args.self.now.sound c.scope-in-Tuple.ensures
