use Rattle.session_core.proofs.Prelude.{refl, false, violates, Knowledge}
use Rattle.session_core.proofs.Moving.{none_struck}
use Rattle.session_core.proofs.knowledge.Knowledge.hear_no.Goals as goal

pub returns-clause-answered : goal.returns-clause-answered
returns-clause-answered c = λ q.
    let k : Knowledge = c.args.self.now in
    record {
      lang = refl;
      plan = refl;
      network = refl;
      tree = refl;
      kept = none_struck false (λ d. violates k.lang d q) k.kept.members refl;
      count = c.one_more-self.ensures.is;
    }
