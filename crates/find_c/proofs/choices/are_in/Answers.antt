use Rattle.find_c.proofs.Prelude.{◌+◌, drop, sym, ◌∙◌, ap, arith, ◌&&◌, are_in}
use Rattle.find_c.proofs.Outside.{in_more, in_all}
use Rattle.find_c.proofs.choices.are_in.Goals as goal

pub returns-then-not-is_in : goal.returns-then-not-is_in
returns-then-not-is_in c =
    let ranges = c.args.lang.now.ranges in
    sym (in_more ranges c.args.scope.now c.args.values.now c.loop-i.i c.range-first.result.0 c.range-first.result.1 c.is_in.result (are_in ranges c.args.scope.now c.args.values.now)
    c.loop-i-test.true c.requires.long c.is_in.ensures c.range-first.ensures.first c.range-first.ensures.last c.loop-i.invariant
    ∙ ap (λ b. b && are_in ranges (drop (c.loop-i.i + 1) c.args.scope.now) (drop (c.loop-i.i + 1) c.args.values.now)) c.if-not-is_in.true)

pub loop-i-preserved : goal.loop-i-preserved
loop-i-preserved c =
    let ranges = c.args.lang.now.ranges in
    in_more ranges c.args.scope.now c.args.values.now c.loop-i.i c.range-first.result.0 c.range-first.result.1 c.is_in.result (are_in ranges c.args.scope.now c.args.values.now)
    c.loop-i-test.true c.requires.long c.is_in.ensures c.range-first.ensures.first c.range-first.ensures.last c.loop-i.invariant
    ∙ ap (λ b. b && are_in ranges (drop (c.loop-i.i + 1) c.args.scope.now) (drop (c.loop-i.i + 1) c.args.values.now)) c.if-not-is_in.false

pub returns : goal.returns
returns c = sym (in_all c.args.lang.now.ranges c.args.scope.now c.args.values.now c.loop-i.i (are_in c.args.lang.now.ranges c.args.scope.now c.args.values.now) (let past = c.loop-i-test.false in omega arith) c.loop-i.invariant)
