use Rattle.session_core.proofs.Prelude.{sym, ◌∙◌, arith, Knowledge}
use Rattle.session_core.proofs.Asked.{asked_question, run_asked}
use Rattle.session_core.proofs.knowledge.Knowledge.run_asking.Goals as goal

pub place_on-requires-clause-question : goal.place_on-requires-clause-question
place_on-requires-clause-question c =
    let k : Knowledge = c.args.self.now in
    asked_question k.lang c.scopes-s-end.ensures.lawful k.kept.members k.network.list k.made.known c.args.q.now c.requires

pub returns-in-Some : goal.returns-in-Some
returns-in-Some c =
    let k : Knowledge = c.args.self.now in
    run_asked k.lang c.scopes-s-end.ensures.lawful k.kept.members k.network.list k.made.known c.args.q.now c.requires c.loop-s.s c.in-Some.place c.asking.result
    (let low = c.loop-s-test.true in let all = c.scopes-s-end.ensures.is in omega arith) (sym c.place_on.ensures.is ∙ c.in-Some.is) c.asking.ensures.scope c.asking.ensures.choices c.asking.ensures.tuple
