use Rattle.cert_check.proofs.Prelude.{◌+◌, subst, sym}
use Rattle.cert_check.proofs.ByScope.{lost_more, lost_nothing}
use Rattle.cert_check.proofs.told.strike.Goals as goal
use Rattle.cert_check.proofs.told.strike.Goals.{then-left-s-ne0, else-left-s-ne0}
use Rattle.cert_check.specs.Told.{HaveLost}

pub loop-s-preserved : goal.loop-s-preserved
loop-s-preserved c =
    elim c.if-left-s-ne0.branch [
      | then-left-s-ne0 w ↦ subst (HaveLost c.args.lang.now c.args.q.now (c.loop-s.s + 1) c.args.left.now) (sym w.left-is)
          (lost_more c.args.lang.now c.args.q.now c.loop-s.s w.unviolated.result c.args.left.now c.loop-s.left c.loop-s-test.true w.unviolated.ensures c.loop-s.invariant)
      | else-left-s-ne0 w ↦ subst (HaveLost c.args.lang.now c.args.q.now (c.loop-s.s + 1) c.args.left.now) (sym w.left-is)
          (lost_nothing c.args.lang.now c.args.q.now c.loop-s.s c.args.left.now c.loop-s.left w.if-left-s-ne0.false c.loop-s.invariant)
    ]
