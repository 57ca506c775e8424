use Rattle.propagators.proofs.Prelude.{◌≡◌, ◌+◌, ◌-◌, ◌∙◌, ℕ, [], length, length-set, sym, ap, arith, take, take_all, slice_index_or, slice_set, HasOne, firsts_on}
use Rattle.rel_table.specs.Relation.{place}
use Rattle.propagators.proofs.Fixed.{next_one}
use Rattle.propagators.proofs.Steps.{next_at, next_small, product_fits, opened, length-firsts, first_only}
use Rattle.propagators.proofs.openings.opening_of.Goals as goal

pub overflow_mul-result : goal.overflow_mul-result
overflow_mul-result c =
    let few = c.requires.short in
    let small = c.requires.small in
    let d = c.from-2.ensures in
    let fits = product_fits c.loop-place.at c.from-2.result c.loop-place.place c.loop-place.invariant.small (omega arith) (omega arith) in
    omega arith

pub loop-place-preserved : goal.loop-place-preserved
loop-place-preserved c =
    let below = c.requires.below (slice_index_or c.args.scope.now c.loop-place.place 0) c.in-Some.x c.in-Some.ensures.only.there in
    let long = length-firsts c.args.doms.now c.args.scope.now in
    record {
      at = next_at c.args.d c.loop-place.at c.from-in-loop-place.result c.from-in-loop-place-2.result c.loop-place.place (firsts_on c.args.doms.now c.args.scope.now) (omega arith) c.loop-place.invariant.at c.from-in-loop-place.ensures
          (c.from-in-loop-place-2.ensures ∙ sym (first_only c.args.doms.now c.args.scope.now c.loop-place.place c.in-Some.x c.requires.known c.requires.full (omega arith) c.in-Some.ensures.only));
      small = next_small c.loop-place.at c.args.d c.from-in-loop-place.result c.in-Some.x c.from-in-loop-place-2.result c.loop-place.place c.loop-place.invariant.small c.requires.small below c.from-in-loop-place.ensures c.from-in-loop-place-2.ensures;
      fixed = next_one (λ (k : ℕ). HasOne (slice_index_or c.args.doms.now (slice_index_or c.args.scope.now k 0) [])) c.loop-place.place c.loop-place.invariant.fixed (record { value = c.in-Some.x; only = c.in-Some.ensures.only });
    }

pub returns-clause-first : goal.returns-clause-first
returns-clause-first c =
    let some = c.requires.some in
    let long = length-firsts c.args.doms.now c.args.scope.now in
    let last : c.loop-place.place ≡ length c.args.scope.now - 1 = omega arith in
    let xs = slice_set (firsts_on c.args.doms.now c.args.scope.now) (length c.args.scope.now - 1) 0 in
    opened c.args.d c.loop-place.at c.from-2.result (length c.args.scope.now - 1) (firsts_on c.args.doms.now c.args.scope.now) (omega arith) (c.loop-place.invariant.at ∙ ap (λ k. place c.args.d (take k (firsts_on c.args.doms.now c.args.scope.now))) last) c.from-2.ensures
    ∙ ap (place c.args.d) (take_all (length c.args.scope.now - 1 + 1) xs (omega (arith, length-set (firsts_on c.args.doms.now c.args.scope.now) (length c.args.scope.now - 1) 0)))
