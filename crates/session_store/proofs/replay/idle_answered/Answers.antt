use Rattle.session_store.proofs.Prelude.{◌∙◌, sym, answer_to}
use Rattle.session_store.proofs.Replaying.{idle_is, lawful_steps, moved_to}
use Rattle.session_store.proofs.replay.idle_answered.Goals as goal

pub returns-then-is_lawful-clause-some : goal.returns-then-is_lawful-clause-some
returns-then-is_lawful-clause-some c =
    let k = c.args.idle.knowledge.value in
    let q = c.args.question.now in
    record {
      lang = c.answer.ensures.lang ∙ c.ask.ensures.lang;
      plan = c.answer.ensures.plan ∙ c.ask.ensures.plan;
      moves = λ t state at.
          let idle = idle_is state k.network.list at.stands.after.end k.lang k.plan t at.at at.stands.after.idle in
          let stands = c.answer.ensures.stands t q c.ask.ensures.question (c.ask.ensures.stands t at.stands) in
          moved_to k.lang k.plan t (answer_to q c.args.yes) state c.answer.result at.at (lawful_steps k.lang k.plan t k.network.list k.kept.members at.stands.after.end q c.args.yes state at.stands.knows.kept idle (sym c.is_lawful.ensures ∙ c.if-is_lawful.true))
          (c.answer.ensures.lang ∙ c.ask.ensures.lang) (c.answer.ensures.plan ∙ c.ask.ensures.plan) stands (c.answer.ensures.settled _ stands);
    }
