use Rattle.propagators.proofs.Prelude.{◌≢◌, ◌-◌, ◌≤◌, ◌∙◌, ℕ, [], length-set, sym, arith, slice_index_or, get_or-set_other, HasOne, firsts_on}
use Rattle.propagators.proofs.Fixed.{next_one}
use Rattle.propagators.proofs.Steps.{next_at, next_small, product_fits, length-firsts, first_only}
use Rattle.propagators.proofs.openings.place_on.Goals as goal

pub overflow_mul-at : goal.overflow_mul-at
overflow_mul-at c =
    let few = c.requires.short in
    let small = c.requires.small in
    let d = c.from.ensures in
    let fits = product_fits c.loop-j.at c.from.result c.loop-j.j c.loop-j.invariant.small (omega arith) (omega arith) in
    omega arith

pub overflow_add-at : goal.overflow_add-at
overflow_add-at c =
    let few = c.requires.short in
    let small = c.requires.small in
    let d = c.from.ensures in
    let x = c.from-in-loop-j.ensures in
    let below = c.requires.below (slice_index_or c.args.scope.now c.loop-j.j 0) c.in-Some.x c.in-Some.ensures.only.there in
    let fits = product_fits c.loop-j.at c.from.result c.loop-j.j c.loop-j.invariant.small (omega arith) (omega arith) in
    omega arith

pub loop-j-preserved : goal.loop-j-preserved
loop-j-preserved c =
    let below = c.requires.below (slice_index_or c.args.scope.now c.loop-j.j 0) c.in-Some.x c.in-Some.ensures.only.there in
    let some = c.requires.some in
    let long = length-firsts c.args.doms.now c.args.scope.now in
    let other : c.loop-j.j ≢ c.args.from - 1 = (λ e. omega arith) in
    record {
      at = next_at c.args.d c.loop-j.at c.from.result c.from-in-loop-j.result c.loop-j.j _ (omega (arith, length-set (firsts_on c.args.doms.now c.args.scope.now) (c.args.from - 1) 0)) c.loop-j.invariant.at c.from.ensures
          (c.from-in-loop-j.ensures ∙ sym (get_or-set_other (firsts_on c.args.doms.now c.args.scope.now) (c.args.from - 1) c.loop-j.j 0 0 other ∙ first_only c.args.doms.now c.args.scope.now c.loop-j.j c.in-Some.x c.requires.known c.requires.full (omega arith) c.in-Some.ensures.only));
      small = next_small c.loop-j.at c.args.d c.from.result c.in-Some.x c.from-in-loop-j.result c.loop-j.j c.loop-j.invariant.small c.requires.small below c.from.ensures c.from-in-loop-j.ensures;
      fixed = λ k from under. next_one (λ (k : ℕ). c.args.from ≤ k → HasOne (slice_index_or c.args.doms.now (slice_index_or c.args.scope.now k 0) [])) c.loop-j.j (λ k under from. c.loop-j.invariant.fixed k from under) (λ from. record { value = c.in-Some.x; only = c.in-Some.ensures.only }) k under from;
    }
