use Rattle.propagators.proofs.Prelude.{refl, conditions}
use Rattle.propagators.proofs.Rounds.{dead_before, settled_largest}
use Rattle.propagators.proofs.Conditions.{family_under}
use Rattle.propagators.proofs.Visiting.{visits_fall}
use Rattle.propagators.proofs.visits.visit_all.Goals as goal

pub returns-in-None-clause-dead : goal.returns-in-None-clause-dead
returns-in-None-clause-dead c = λ e. dead_before (conditions c.args.cons.now) c.args.doms.now c.loop-v.doms c.loop-v.invariant.0 (c.in-None.ensures.dead refl)

pub loop-v-smaller : goal.loop-v-smaller
loop-v-smaller c = visits_fall c.loop-v.doms c.visit.new.doms c.loop-v.changed c.in-Some-visit.next c.in-Some.v c.in-Some.ensures.set c.in-Some.ensures.within c.in-Some.ensures.there c.in-Some-visit.ensures.visited.left

pub returns-clause-alive : goal.returns-clause-alive
returns-clause-alive c = λ e. record {
  largest = settled_largest (conditions c.args.cons.now) c.args.doms.now c.loop-v.doms c.loop-v.changed (c.in_default.ensures.none refl)
      c.loop-v.invariant.0 c.loop-v.invariant.1;
  full = c.loop-v.invariant.0.full;
  family = family_under c.args.cons.now.lang.now (conditions c.args.cons.now) c.args.doms.now c.loop-v.doms c.requires.doms.family c.loop-v.invariant.0;
}

pub visit-requires-clause-doms : goal.visit-requires-clause-doms
visit-requires-clause-doms c = record {
  family = family_under c.args.cons.now.lang.now (conditions c.args.cons.now) c.args.doms.now c.loop-v.doms c.requires.doms.family c.loop-v.invariant.0;
  full = c.loop-v.invariant.0.full;
  settled = c.loop-v.invariant.1;
}
