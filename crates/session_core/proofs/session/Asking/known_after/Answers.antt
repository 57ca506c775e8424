use Rattle.session_core.proofs.Prelude.{Bool, true, false, sym, subst, Assignment, Knowledge, IsAnswered, question_put}
use Rattle.session_core.proofs.session.Asking.known_after.Goals as goal

pub returns-then-yes-clause-answered : goal.returns-then-yes-clause-answered
returns-then-yes-clause-answered c =
    let k : Knowledge = c.args.self.knowledge.value in
    let k' : Knowledge = c.hear_yes.new.self in
    let q : Assignment = question_put k.lang c.args.self.put.value in
    let first : Assignment = c.args.question.now in
    let known = subst (λ (x : Knowledge). IsAnswered x first true k') c.deref_mut.ensures.value c.hear_yes.ensures.answered in
    let is = subst (λ (reply : Bool). IsAnswered k first reply k') (sym c.if-yes.true) known in
    subst (λ x. IsAnswered k x c.args.yes k') (sym c.requires.asked) is

pub returns-else-yes-clause-answered : goal.returns-else-yes-clause-answered
returns-else-yes-clause-answered c =
    let k : Knowledge = c.args.self.knowledge.value in
    let k' : Knowledge = c.hear_no.new.self in
    let q : Assignment = question_put k.lang c.args.self.put.value in
    subst (λ (reply : Bool). IsAnswered k q reply k') (sym c.if-yes.false)
    (subst (λ (x : Knowledge). IsAnswered x q false k') c.deref_mut-else-yes.ensures.value (c.hear_no.ensures.answered q))
