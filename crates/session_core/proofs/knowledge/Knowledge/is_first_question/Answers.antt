use Rattle.session_core.proofs.Prelude.{sym, ◌∙◌, refl, Scopes, Knowledge}
use Rattle.session_core.proofs.Putting.{lawful_is}
use Rattle.session_core.proofs.knowledge.Knowledge.is_first_question.Goals as goal

pub returns-in-Some : goal.returns-in-Some
returns-in-Some c =
    let k : Knowledge = c.args.self.now in
    lawful_is k.lang Scopes k.kept.members k.network.list c.in-Some.question c.args.q.now c.equals.result refl (sym c.first_question.ensures.is ∙ c.in-Some.is) c.equals.ensures
