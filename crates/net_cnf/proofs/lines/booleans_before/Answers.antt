use Rattle.net_cnf.proofs.Prelude.{arith}
use Rattle.net_cnf.proofs.Numbers.{offset_more}
use Rattle.net_cnf.proofs.lines.booleans_before.Goals as goal

pub loop-w-preserved : goal.loop-w-preserved
loop-w-preserved c =
    let more = offset_more c.args.lang.now c.loop-w.w c.width-count.result c.width-count.ensures.is in
    let few = c.width-count.ensures.few in
    let small = c.width-count.ensures.small in
    record {
      is = omega (arith, more, c.loop-w.invariant.is);
      few = omega (arith, few, c.loop-w.invariant.few);
      small = omega (arith, small, c.loop-w.invariant.small);
    }
