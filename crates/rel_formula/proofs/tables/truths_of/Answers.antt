use Rattle.rel_formula.proofs.Prelude.{◌≡◌, ◌+◌, ◌-◌, ◌*◌, ◌^◌, ℤ, None, w64, to_z, of_z, arith, subst, suc, to_z-of_z, relation_from_formula, first_too_big}
use Rattle.std.proofs.Common.{negsuc, pos, ◌≤ℤ◌, ap, sym}
use Rattle.rel_formula.specs.Places.{AreTruthsTo}
use Rattle.rel_formula.proofs.Places.{relation_of-all, first_too_big-none, all_rows}
use Rattle.rel_formula.proofs.tables.truths_of.Goals as goal

pub loop-row-preserved : goal.loop-row-preserved
loop-row-preserved c =
    let more : c.loop-row.row * c.args.d + c.args.d ≡ (c.loop-row.row + 1) * c.args.d = omega arith in
    subst (λ k. AreTruthsTo c.args.f.now c.args.arity (to_z w64 (of_z w64 c.args.lo)) c.args.d k c.add_row.new.truths.items) more c.in_ok-add_row.ensures.so_far

pub returns-clause-truth : goal.returns-clause-truth
returns-clause-truth c =
    let size : c.args.arity ≡ suc (c.args.arity - 1) = omega (arith, c.requires.some) in
    let rows : c.loop-row.row ≡ c.args.d ^ (c.args.arity - 1) = omega (arith, c.loop-row-test.false, c.loop-row.auto.row-end, c.tuple_count-rows.ensures) in
    let all : c.loop-row.row * c.args.d ≡ c.args.d ^ c.args.arity = all_rows c.args.d (c.args.arity - 1) c.args.arity c.loop-row.row size rows in
    subst (λ (y : ℤ). c.loop-row.truths.items ≡ relation_from_formula c.args.f.now c.args.arity y c.args.d) (to_z-of_z w64 c.args.lo c.ranges.lo)
    (relation_of-all c.args.f.now c.args.arity _ c.args.d (c.loop-row.row * c.args.d) _ (omega (arith, all)) c.loop-row.invariant.truth)

pub returns-clause-fits : goal.returns-clause-fits
returns-clause-fits c =
    let size : c.args.arity ≡ suc (c.args.arity - 1) = omega (arith, c.requires.some) in
    let rows : c.loop-row.row ≡ c.args.d ^ (c.args.arity - 1) = omega (arith, c.loop-row-test.false, c.loop-row.auto.row-end, c.tuple_count-rows.ensures) in
    let all : c.loop-row.row * c.args.d ≡ c.args.d ^ c.args.arity = all_rows c.args.d (c.args.arity - 1) c.args.arity c.loop-row.row size rows in
    subst (λ (y : ℤ). first_too_big c.args.f.now c.args.arity y c.args.d ≡ None) (to_z-of_z w64 c.args.lo c.ranges.lo)
    (first_too_big-none c.args.f.now c.args.arity (to_z w64 (of_z w64 c.args.lo)) c.args.d (λ k h. c.loop-row.invariant.fits k (omega (arith, all))))

pub overflow_mul-rows : goal.overflow_mul-rows
overflow_mul-rows c =
    let size : c.args.arity ≡ suc (c.args.arity - 1) = omega (arith, c.requires.some) in
    let all = all_rows c.args.d (c.args.arity - 1) c.args.arity c.tuple_count-rows.result size c.tuple_count-rows.ensures in
    let is = ap (λ k. c.tuple_count-rows.result * k) c.from.ensures in
    omega (arith, all, is, c.requires.fits)

pub add_row-requires-clause-low : goal.add_row-requires-clause-low
add_row-requires-clause-low c = subst (λ (y : ℤ). negsuc 999999 ≤ℤ y) (sym (to_z-of_z w64 c.args.lo c.ranges.lo)) c.requires.low

pub add_row-requires-clause-high : goal.add_row-requires-clause-high
add_row-requires-clause-high c = subst (λ (y : ℤ). y ≤ℤ pos 1000000) (sym (to_z-of_z w64 c.args.lo c.ranges.lo)) c.requires.high
