use Rattle.assign.proofs.Prelude.{◌∙◌, ◌≡◌, ◌+◌, ◌/◌, length, ap, arith, ℕ}
use Rattle.assign.proofs.Fronts.{below, at_first, from_above, half_below}
use Rattle.assign.proofs.sets.VarSet.first_half.Goals as goal

pub loop-low-init : goal.loop-low-init
loop-low-init c = at_first c.args.self c.div_ceil-half.result c.len.ensures.set (omega arith)

pub loop-low-preserved-then-len-half : goal.loop-low-preserved-then-len-half
loop-low-preserved-then-len-half c =
    let middle : ℕ = (c.loop-low.low + c.loop-low.high) / 2 in
    let counted : c.len-in-loop-low.result ≡ length (below middle c.args.self) = c.len-in-loop-low.ensures.count ∙ ap length c.below.ensures in
    from_above c.args.self c.div_ceil-half.result c.loop-low.low c.loop-low.high middle c.len.ensures.set c.loop-low.invariant (omega arith) (omega arith) (omega (arith, counted))

pub returns : goal.returns
returns c =
    c.below-2.ensures ∙ half_below c.args.self c.div_ceil-half.result c.loop-low.low c.loop-low.high c.len.ensures.set (omega arith) c.loop-low-test.false c.loop-low.invariant
