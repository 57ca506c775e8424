use Rattle.session_core.proofs.Prelude.{arith}
use Rattle.session_core.proofs.Settling.{goes_first, goes_next, goes_loud, goes_last}
use Rattle.session_core.proofs.halving.settle.Goals as goal

pub loop-turn-init : goal.loop-turn-init
loop-turn-init c = goes_first c.args.lang.now c.args.kept.now.members c.args.e.now c.args.size c.args.next

pub returns-in-Err : goal.returns-in-Err
returns-in-Err c =
    goes_loud c.args.lang.now c.args.kept.now.members c.args.e.now c.args.size c.args.next c.loop-turn.turn c.loop-turn.next c.in-Err.settled c.in-Err.ensures.other c.in-Err.ensures.is_other c.loop-turn.invariant

pub loop-turn-preserved : goal.loop-turn-preserved
loop-turn-preserved c =
    goes_next c.args.lang.now c.args.kept.now.members c.args.e.now c.args.size c.args.next c.loop-turn.turn c.loop-turn.next c.reply-next.result c.in-Ok.run' (omega (arith, c.loop-turn-test.true, c.from-turn-end.ensures)) c.in-Ok.ensures.quiet c.in-Ok.ensures.is_quiet c.reply-next.ensures
    c.loop-turn.invariant

pub returns : goal.returns
returns c =
    goes_last c.args.lang.now c.args.kept.now.members c.args.e.now c.args.size c.args.next c.loop-turn.turn c.loop-turn.next (omega (arith, c.loop-turn-test.false, c.from-turn-end.ensures)) c.loop-turn.invariant
