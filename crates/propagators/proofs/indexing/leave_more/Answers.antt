use Rattle.propagators.proofs.Prelude.{conditions}
use Rattle.propagators.proofs.Indexed.{settled_more, root_dead, root_more}
use Rattle.propagators.proofs.indexing.leave_more.Goals as goal

pub propagate_after-requires-clause-doms : goal.propagate_after-requires-clause-doms
propagate_after-requires-clause-doms c = settled_more c.args.cons.now.lang.now (conditions c.args.cons.now) c.args.changed c.args.root.now c.args.was_alive c.requires.before c.if-not-was_alive.false

pub returns-then-not-was_alive : goal.returns-then-not-was_alive
returns-then-not-was_alive c = root_dead c.args.cons.now.lang.now (conditions c.args.cons.now) c.args.changed c.args.root.now c.args.was_alive c.requires.before c.if-not-was_alive.true

pub returns : goal.returns
returns c =
    root_more c.args.cons.now.lang.now (conditions c.args.cons.now) c.args.changed c.args.root.now c.args.was_alive c.requires.before c.if-not-was_alive.false c.propagate_after.new.doms c.is_yes.result
    (λ e. c.propagate_after.ensures.alive (c.is_yes.ensures.yes e)) (λ e. c.propagate_after.ensures.dead (c.is_yes.ensures.no e))
