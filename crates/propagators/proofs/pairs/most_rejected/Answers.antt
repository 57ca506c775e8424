use Rattle.propagators.proofs.Prelude.{◌≤◌, rules, arith, slice_index_or}
use Rattle.propagators.proofs.Loose.{rejects_next, row_rejects}
use Rattle.propagators.proofs.pairs.most_rejected.Goals as goal

pub loop-x-preserved : goal.loop-x-preserved
loop-x-preserved c =
    let more : c.loop-x.most ≤ c.max-most.result = search rules in
    let here : c.count.result ≤ c.max-most.result = search rules in
    let is = row_rejects c.args.d c.first_values-all.result c.passing.result (slice_index_or c.args.masks.now c.loop-x.x 0) c.args.holding c.first_values-all.ensures c.passing.ensures in
    let count = c.count.ensures.is in
    rejects_next c.args.d c.args.holding c.args.masks.now c.loop-x.x c.loop-x.most c.max-most.result more (omega arith) c.loop-x.invariant

pub returns : goal.returns
returns c = λ x low. c.loop-x.invariant x (let end = c.loop-x-test.false in let d = c.from-x-end.ensures in omega arith)
