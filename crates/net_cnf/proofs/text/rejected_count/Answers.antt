use Rattle.net_cnf.proofs.Prelude.{◌<◌, length, arith}
use Rattle.net_cnf.proofs.Pieces.{counted_more}
use Rattle.net_cnf.proofs.text.rejected_count.Goals as goal

pub loop-i-preserved : goal.loop-i-preserved
loop-i-preserved c =
    let low : c.loop-i.i < length c.args.net.now.list = omega arith in
    let more = counted_more c.args.lang.now c.args.net.now.list c.loop-i.i c.item.result low c.item.ensures in
    record {
      is = omega (arith, more, c.rejected_by.ensures.is, c.loop-i.invariant.is);
      few = omega (arith, c.rejected_by.ensures.few, c.loop-i.invariant.few);
    }
