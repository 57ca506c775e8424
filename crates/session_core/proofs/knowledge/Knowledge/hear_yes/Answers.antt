use Rattle.session_core.proofs.Prelude.{Bool, not, Candidate, violates, Knowledge}
use Rattle.session_core.proofs.Moving.{decided_on, unlearned_struck}
use Rattle.session_core.proofs.knowledge.Knowledge.hear_yes.Goals as goal

pub invariant_of-self : goal.invariant_of-self
invariant_of-self c =
    let k : Knowledge = c.args.self.now in
    let left : Candidate → Bool = λ (d : Candidate). not (violates k.lang d c.args.q.now) in
    record {
      walks = k.walks;
      listed = k.listed;
      resting = k.resting;
      made = c.strike.ensures.made;
      lawful = k.lawful;
      room = k.room;
      unlearned = unlearned_struck left k.network.list k.kept.members c.strike.new.kept.members c.strike.ensures.kept k.unlearned;
      none_before = decided_on k.lang left k.kept.members c.strike.new.kept.members k.network.list k.next c.strike.ensures.kept k.none_before;
      within = k.within;
    }
