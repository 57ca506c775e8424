use Rattle.language.proofs.Prelude.{arith, is_in}
use Rattle.language.proofs.ByNames.{no_mask, mask_more}
use Rattle.language.proofs.narrow.range_mask.Goals as goal

pub loop-y-init : goal.loop-y-init
loop-y-init c = no_mask (is_in c.args.range)

pub loop-y-preserved : goal.loop-y-preserved
loop-y-preserved c =
    mask_more (is_in c.args.range) c.loop-y.y c.loop-y.mask c.from.result c.is_in.result (omega arith) c.from.ensures c.is_in.ensures c.loop-y.invariant

pub returns : goal.returns
returns c = record {
  low = λ y low. c.loop-y.invariant.low y (omega arith);
  high = λ y past. c.loop-y.invariant.high y (omega arith);
}
