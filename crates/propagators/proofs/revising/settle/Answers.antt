use Rattle.propagators.proofs.Prelude.{refl, sym, arith, conditions}
use Rattle.propagators.proofs.Rounds.{dead_before, turn_falls, settled_largest}
use Rattle.propagators.proofs.Conditions.{family_under}
use Rattle.propagators.proofs.Words.{no_length, some_length}
use Rattle.propagators.proofs.revising.settle.Goals as goal
use Rattle.shared_lemmas.proofs.Lists.{empty_list}

pub returns-in-None-clause-dead : goal.returns-in-None-clause-dead
returns-in-None-clause-dead c = λ e. dead_before (conditions c.args.cons.now) c.args.doms.now c.loop-changed.doms c.loop-changed.invariant.0 (c.in-None.ensures.dead refl)

pub loop-changed-smaller : goal.loop-changed-smaller
loop-changed-smaller c = turn_falls c.loop-changed.doms c.pass.new.doms c.loop-changed.changed c.in-Some.next (let some = some_length c.loop-changed.changed (sym c.loop-changed-test.ensures) in omega arith) c.in-Some.ensures.passed.fewer

pub returns-clause-alive : goal.returns-clause-alive
returns-clause-alive c = λ e. record {
  largest = settled_largest (conditions c.args.cons.now) c.args.doms.now c.loop-changed.doms c.loop-changed.changed (empty_list c.loop-changed.changed (no_length c.loop-changed.changed (sym c.loop-changed-test.ensures)))
      c.loop-changed.invariant.0 c.loop-changed.invariant.1;
  full = c.loop-changed.invariant.0.full;
  family = family_under c.args.cons.now.lang.now (conditions c.args.cons.now) c.args.doms.now c.loop-changed.doms c.requires.doms.family c.loop-changed.invariant.0;
}

pub pass-requires-clause-doms : goal.pass-requires-clause-doms
pass-requires-clause-doms c = record {
  family = family_under c.args.cons.now.lang.now (conditions c.args.cons.now) c.args.doms.now c.loop-changed.doms c.requires.doms.family c.loop-changed.invariant.0;
  full = c.loop-changed.invariant.0.full;
  settled = c.loop-changed.invariant.1;
}
