use Rattle.cert_check.proofs.Prelude.{rules, length, set, sym, ◌∙◌, subst, length-set}
use Rattle.cert_check.proofs.Values.{IsPutSoFar, put_begins, put_more, all_put}
use Rattle.cert_check.proofs.siblings.put.Goals as goal

pub loop-left-init : goal.loop-left-init
loop-left-init c = record { put = put_begins c.args.values c.args.i c.args.items.now; size = search rules }

pub loop-left-preserved : goal.loop-left-preserved
loop-left-preserved c = record {
  put = subst (λ m. IsPutSoFar c.args.values m c.args.i c.args.items.now (set c.loop-left.items c.split_first-x.result.0 c.args.i)) (sym c.split_first-x.ensures.others)
      (put_more c.args.values c.loop-left.left c.split_first-x.result.0 c.args.i c.args.items.now c.loop-left.items c.loop-left.invariant.put c.loop-left.invariant.size c.split_first-x.ensures.small c.split_first-x.ensures.one);
  size = length-set c.loop-left.items c.split_first-x.result.0 c.args.i ∙ c.loop-left.invariant.size;
}

pub loop-left-smaller : goal.loop-left-smaller
loop-left-smaller c = c.split_first-x.ensures.fewer

pub returns : goal.returns
returns c = all_put c.args.values c.loop-left.left c.args.i c.args.items.now c.loop-left.items c.loop-left.invariant.put c.loop-left-test.false
