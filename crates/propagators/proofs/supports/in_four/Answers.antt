use Rattle.propagators.proofs.Prelude.{◌≡◌, ◌≤◌, ◌+◌, ◌*◌, ◌∙◌, ℕ, [], ◌∷◌, length, sym, subst, arith, ones_of, AreSupported, AreSupportedBeside, continues}
use Rattle.assign.proofs.Ones.{ones_of-zero}
use Rattle.propagators.proofs.Sweeping.{sweep_begin, sweep_step, sweep_end, place_fits}
use Rattle.propagators.proofs.Single.{single_supported}
use Rattle.propagators.proofs.Words.{below}
use Rattle.propagators.proofs.supports.in_four.Goals as goal

pub loop-rest-init : goal.loop-rest-init
loop-rest-init c = sweep_begin c.args.first (ones_of c.args.second ∷ (ones_of c.args.third ∷ ones_of c.args.last ∷ [])) (continues c.args.table.now c.args.holding 0) (ones_of 0 ∷ ones_of 0 ∷ ones_of 0 ∷ []) (ones_of-zero, (ones_of-zero, (ones_of-zero, tt)))

pub loop-rest-preserved : goal.loop-rest-preserved
loop-rest-preserved c =
    let place : c.from-at.result ≡ 0 * c.args.table.now.value_count + c.least_value-x.result = c.from-at.ensures ∙ (let e : c.least_value-x.result ≡ 0 * c.args.table.now.value_count + c.least_value-x.result = omega arith in e) in
    sweep_step c.args.first c.loop-rest.rest (ones_of c.args.second) (ones_of c.args.third ∷ ones_of c.args.last ∷ []) (continues c.args.table.now c.args.holding 0) c.loop-rest.a (ones_of c.loop-rest.b ∷ ones_of c.loop-rest.c ∷ ones_of c.loop-rest.e ∷ []) c.least_value-x.result c.without_value-rest.result c.in_three_beside-below.result.0 c.with_value-a.result (ones_of c.in_three_beside-below.result.1 ∷ ones_of c.in_three_beside-below.result.2 ∷ []) (ones_of c.either-b.result ∷ ones_of c.either-c.result ∷ ones_of c.either-e.result ∷ [])
    c.loop-rest.invariant c.least_value-x.ensures.there c.without_value-rest.ensures.has
    (subst (λ (k : ℕ). AreSupportedBeside (ones_of c.args.second ∷ (ones_of c.args.third ∷ ones_of c.args.last ∷ [])) (continues c.args.table.now c.args.holding k) (ones_of c.loop-rest.b ∷ (ones_of c.loop-rest.c ∷ ones_of c.loop-rest.e ∷ [])) (ones_of c.in_three_beside-below.result.0 ∷ (ones_of c.in_three_beside-below.result.1 ∷ ones_of c.in_three_beside-below.result.2 ∷ []))) place c.in_three_beside-below.ensures) c.with_value-a.ensures (c.either-b.ensures, (c.either-c.ensures, (c.either-e.ensures, tt)))

pub returns : goal.returns
returns c = sweep_end c.args.first c.loop-rest.rest (ones_of c.args.second ∷ (ones_of c.args.third ∷ ones_of c.args.last ∷ [])) (continues c.args.table.now c.args.holding 0) c.loop-rest.a (ones_of c.loop-rest.b ∷ ones_of c.loop-rest.c ∷ ones_of c.loop-rest.e ∷ []) c.loop-rest-test.false c.loop-rest.invariant

pub with_value-requires : goal.with_value-requires
with_value-requires c = below c.args.first c.in-Some.x c.ranges.first.fits c.in-Some.ensures.only.there

pub returns-in-Some : goal.returns-in-Some
returns-in-Some c =
    let place : c.from.result ≡ 0 * c.args.table.now.value_count + c.in-Some.x = c.from.ensures ∙ (let e : c.in-Some.x ≡ 0 * c.args.table.now.value_count + c.in-Some.x = omega arith in e) in
    single_supported c.args.first c.in-Some.x c.with_value.result c.in_three-below.result.0 (ones_of c.args.second) (ones_of c.args.third ∷ ones_of c.args.last ∷ []) (ones_of c.in_three-below.result.1 ∷ ones_of c.in_three-below.result.2 ∷ []) (continues c.args.table.now c.args.holding 0) c.in-Some.ensures.only
    (subst (λ (k : ℕ). AreSupported (ones_of c.args.second ∷ ones_of c.args.third ∷ ones_of c.args.last ∷ []) (continues c.args.table.now c.args.holding k) (ones_of c.in_three-below.result.0 ∷ ones_of c.in_three-below.result.1 ∷ ones_of c.in_three-below.result.2 ∷ [])) place c.in_three-below.ensures) c.with_value.ensures

pub in_three_beside-below-requires-clause-fits : goal.in_three_beside-below-requires-clause-fits
in_three_beside-below-requires-clause-fits c =
    let place : c.from-at.result ≡ 0 * c.args.table.now.value_count + c.least_value-x.result = c.from-at.ensures ∙ (let e : c.least_value-x.result ≡ 0 * c.args.table.now.value_count + c.least_value-x.result = omega arith in e) in
    subst (λ (k : ℕ). (k + 1) * (c.args.table.now.value_count * (c.args.table.now.value_count * c.args.table.now.value_count)) ≤ length c.args.table.now.truth) (sym place)
    (place_fits 0 c.args.table.now.value_count c.least_value-x.result (c.args.table.now.value_count * (c.args.table.now.value_count * c.args.table.now.value_count)) (length c.args.table.now.truth)
    (c.requires.first c.least_value-x.result (c.loop-rest.invariant.part c.least_value-x.result c.least_value-x.ensures.there)) (let fits = c.requires.fits in omega arith))
