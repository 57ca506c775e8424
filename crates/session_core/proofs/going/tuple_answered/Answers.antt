use Rattle.session_core.proofs.Prelude.{subst, after_reply, scene_of, LeavesChoices, Knowledge}
use Rattle.session_core.proofs.going.tuple_answered.Goals as goal

pub tell_apart-requires-clause-choices : goal.tell_apart-requires-clause-choices
tell_apart-requires-clause-choices c =
    let k : Knowledge = c.args.knowledge.value in
    let run = c.args.run in
    record {
      scope = run.scope;
      choices = after_reply (scene_of k.lang run.scope) run.tuple c.args.yes run.choices;
      settled = subst (λ (x : Knowledge). LeavesChoices x.lang run.scope (after_reply (scene_of x.lang run.scope) run.tuple c.args.yes run.choices) c.reply_beside-next.result) c.deref.ensures c.reply_beside-next.ensures.settled;
      free = c.requires.free;
    }

pub returns-clause-stands : goal.returns-clause-stands
returns-clause-stands c =
    let k : Knowledge = c.args.knowledge.value in
    let run = c.args.run in
    c.tell_apart.ensures.stands run.scope (after_reply (scene_of k.lang run.scope) run.tuple c.args.yes run.choices)
    (subst (λ (x : Knowledge). LeavesChoices x.lang run.scope (after_reply (scene_of x.lang run.scope) run.tuple c.args.yes run.choices) c.reply_beside-next.result) c.deref.ensures c.reply_beside-next.ensures.settled)
