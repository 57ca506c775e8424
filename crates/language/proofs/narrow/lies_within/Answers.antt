use Rattle.language.proofs.Prelude.{◌+◌, length, drop, sym, ◌∙◌, ap, ◌&&◌, tuple_at, length-tuple_at, are_in}
use Rattle.language.proofs.Within.{in_step}
use Rattle.language.proofs.narrow.lies_within.Goals as goal

pub returns-then-not-is_in : goal.returns-then-not-is_in
returns-then-not-is_in c =
    let tuple = tuple_at c.args.d (length c.args.scope.now) c.args.place in
    sym (in_step c.args.ranges.now c.args.scope.now c.tuple_of-tuple.result tuple c.loop-i.i c.is_in.result c.loop-i-test.true c.requires.known (length-tuple_at c.args.d (length c.args.scope.now) c.args.place)
    c.tuple_of-tuple.ensures.values c.is_in.ensures c.loop-i.invariant
    ∙ ap (λ b. b && are_in c.args.ranges.now (drop (c.loop-i.i + 1) c.args.scope.now) (drop (c.loop-i.i + 1) tuple)) c.if-not-is_in.true)

pub loop-i-preserved : goal.loop-i-preserved
loop-i-preserved c =
    let tuple = tuple_at c.args.d (length c.args.scope.now) c.args.place in
    in_step c.args.ranges.now c.args.scope.now c.tuple_of-tuple.result tuple c.loop-i.i c.is_in.result c.loop-i-test.true c.requires.known (length-tuple_at c.args.d (length c.args.scope.now) c.args.place)
    c.tuple_of-tuple.ensures.values c.is_in.ensures c.loop-i.invariant
    ∙ ap (λ b. b && are_in c.args.ranges.now (drop (c.loop-i.i + 1) c.args.scope.now) (drop (c.loop-i.i + 1) tuple)) c.if-not-is_in.false
