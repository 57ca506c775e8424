use Rattle.language.proofs.Prelude.{length, arith, refl, slice_index_or}
use Rattle.language.proofs.Placing.{one_more, value_fits, below_after, fits_after}
use Rattle.language.proofs.places.place_of_values.Goals as goal

pub overflow_mul-place : goal.overflow_mul-place
overflow_mul-place c =
    let low = value_fits c.args.d (slice_index_or c.args.variables.now c.loop-v.v-index 0) c.in_ok-value.value c.args.q.now c.get.result c.requires.values c.get.ensures c.in_ok-value.was in
    let next = fits_after c.args.d c.from.result c.loop-v.place c.in_ok-value.value c.in_ok-value.value c.loop-v.v-index (length c.args.variables.now)
    c.requires.some c.loop-v.invariant.below low c.loop-v-test.true c.from.ensures refl in
    omega (arith, next)

pub overflow_add-place : goal.overflow_add-place
overflow_add-place c =
    let low = value_fits c.args.d (slice_index_or c.args.variables.now c.loop-v.v-index 0) c.in_ok-value.value c.args.q.now c.get.result c.requires.values c.get.ensures c.in_ok-value.was in
    let next = fits_after c.args.d c.from.result c.loop-v.place c.in_ok-value.value c.from-in-loop-v.result c.loop-v.v-index (length c.args.variables.now)
    c.requires.some c.loop-v.invariant.below low c.loop-v-test.true c.from.ensures c.from-in-loop-v.ensures in
    omega (arith, next)

pub loop-v-preserved : goal.loop-v-preserved
loop-v-preserved c =
    let low = value_fits c.args.d (slice_index_or c.args.variables.now c.loop-v.v-index 0) c.in_ok-value.value c.args.q.now c.get.result c.requires.values c.get.ensures c.in_ok-value.was in
    record {
      is = one_more c.args.d c.from.result c.loop-v.place c.in_ok-value.value c.from-in-loop-v.result c.loop-v.v-index c.args.q.now c.args.variables.now _ c.get.result
          c.loop-v-test.true c.get.ensures c.in_ok-value.was c.from.ensures c.from-in-loop-v.ensures c.loop-v.invariant.is;
      below = below_after c.args.d c.from.result c.loop-v.place c.in_ok-value.value c.from-in-loop-v.result c.loop-v.v-index
          c.loop-v.invariant.below low c.from.ensures c.from-in-loop-v.ensures;
    }
