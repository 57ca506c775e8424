use Rattle.net_cnf.proofs.Prelude.{arith}
use Rattle.net_cnf.proofs.Pieces.{few_products, pairs_more}
use Rattle.net_cnf.proofs.text.pair_count.Goals as goal

pub overflow_mul-count : goal.overflow_mul-count
overflow_mul-count c = let few = few_products c.width-d.result c.width-d.ensures.small in omega (arith, few)

pub overflow_add-count : goal.overflow_add-count
overflow_add-count c = let few = few_products c.width-d.result c.width-d.ensures.small in omega (arith, few, c.loop-v.invariant.few)

pub loop-v-preserved : goal.loop-v-preserved
loop-v-preserved c =
    let more = pairs_more c.args.lang.now c.loop-v.v c.width-d.result c.width-d.ensures.is in
    let few = few_products c.width-d.result c.width-d.ensures.small in
    record {
      is = omega (arith, more, c.loop-v.invariant.is);
      few = omega (arith, few, c.loop-v.invariant.few);
    }
