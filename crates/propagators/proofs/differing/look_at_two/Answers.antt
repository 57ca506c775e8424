use Rattle.propagators.proofs.Prelude.{length, min, arith, slice_index_or, conditions, HasApart}
use Rattle.propagators.proofs.Replacing.{all_full}
use Rattle.propagators.proofs.Visiting.{looked_over}
use Rattle.propagators.proofs.Striking.{two_known, two_consistent, two_beside, turned_at}
use Rattle.propagators.proofs.differing.look_at_two.Goals as goal

pub only-requires : goal.only-requires
only-requires c = (let by : HasApart c.args.plan.now.briefs.items (min (length c.args.plan.now.briefs.items) (length (conditions c.args.cons.now))) c.args.v c.args.u = (c.requires.plan.plan.apart c.args.v c.args.u c.requires.known c.requires.apart) in (two_known c.args.cons.now.lang.now c.args.cons.now.list.now c.args.cons.now.against c.requires.lawful c.requires.constraints c.args.plan.now c.requires.plan c.args.doms.now c.requires.doms c.args.v c.args.u by.place (let low = by.low in omega arith) (let low = by.low in omega arith) by.is).0)

pub only-requires-2 : goal.only-requires-2
only-requires-2 c = (let by : HasApart c.args.plan.now.briefs.items (min (length c.args.plan.now.briefs.items) (length (conditions c.args.cons.now))) c.args.v c.args.u = (c.requires.plan.plan.apart c.args.v c.args.u c.requires.known c.requires.apart) in (two_known c.args.cons.now.lang.now c.args.cons.now.list.now c.args.cons.now.against c.requires.lawful c.requires.constraints c.args.plan.now c.requires.plan c.args.doms.now c.requires.doms c.args.v c.args.u by.place (let low = by.low in omega arith) (let low = by.low in omega arith) by.is).1)

pub strike-requires-in-Some-only-clause-apart : goal.strike-requires-in-Some-only-clause-apart
strike-requires-in-Some-only-clause-apart c = (let by : HasApart c.args.plan.now.briefs.items (min (length c.args.plan.now.briefs.items) (length (conditions c.args.cons.now))) c.args.v c.args.u = (c.requires.plan.plan.apart c.args.v c.args.u c.requires.known c.requires.apart) in (two_beside c.args.cons.now.lang.now c.args.cons.now.list.now c.args.cons.now.against c.requires.lawful c.requires.constraints c.args.plan.now c.requires.plan c.args.doms.now c.requires.doms c.args.v c.args.u by.place (let low = by.low in omega arith) (let low = by.low in omega arith) by.is).1)

pub returns-in-Some-only-clause-looked : goal.returns-in-Some-only-clause-looked
returns-in-Some-only-clause-looked c = λ e k room low at. c.strike-in-Some-only.ensures.looked e k room low (λ b. turned_at (slice_index_or c.args.plan.now.briefs.items k b) c.args.v c.args.u (at b))

pub returns-clause-looked : goal.returns-clause-looked
returns-clause-looked c = λ e k room low at.
    looked_over (conditions c.args.cons.now) k c.args.waiting.now c.args.doms.now c.requires.doms.full (λ a under.
    (let known = two_known c.args.cons.now.lang.now c.args.cons.now.list.now c.args.cons.now.against c.requires.lawful c.requires.constraints c.args.plan.now c.requires.plan c.args.doms.now c.requires.doms c.args.v c.args.u k room low at in
    two_consistent c.args.cons.now.lang.now c.args.cons.now.list.now c.args.cons.now.against c.requires.lawful c.requires.constraints c.args.plan.now c.requires.plan c.args.doms.now c.requires.doms c.args.v c.args.u k room low at
    (c.only.ensures.two c.in_default.is (all_full c.args.doms.now c.requires.doms.full c.args.v known.0))
    (c.only-2.ensures.two c.in_default-only.is (all_full c.args.doms.now c.requires.doms.full c.args.u known.1)) a))
