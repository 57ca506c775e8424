use Rattle.propagators.proofs.Prelude.{◌≡◌, ◌≤◌, ◌+◌, ◌*◌, ◌∙◌, ℕ, [], ◌∷◌, length, sym, subst, ones_of, AreSupported, AreSupportedBeside, continues}
use Rattle.assign.proofs.Ones.{ones_of-zero}
use Rattle.propagators.proofs.Sweeping.{sweep_begin, sweep_step, sweep_end, place_fits}
use Rattle.propagators.proofs.Single.{single_supported}
use Rattle.propagators.proofs.supports.in_three.Goals as goal

pub loop-rest-init : goal.loop-rest-init
loop-rest-init c = sweep_begin c.args.first (ones_of c.args.second ∷ (ones_of c.args.last ∷ [])) (continues c.args.table.now c.args.holding c.args.at) (ones_of 0 ∷ ones_of 0 ∷ []) (ones_of-zero, (ones_of-zero, tt))

pub in_two_beside-below-requires-clause-fits : goal.in_two_beside-below-requires-clause-fits
in_two_beside-below-requires-clause-fits c =
    let place : c.args.at * c.from-d.result + c.from-in-loop-rest.result ≡ c.args.at * c.args.table.now.value_count + c.least_value-x.result = (λ i. c.args.at * ((c.from-d.ensures ∙ c.value_count.ensures.is) i) + c.from-in-loop-rest.ensures i) in
    subst (λ (k : ℕ). (k + 1) * (c.args.table.now.value_count * c.args.table.now.value_count) ≤ length c.args.table.now.truth) (sym place)
    (place_fits c.args.at c.args.table.now.value_count c.least_value-x.result (c.args.table.now.value_count * c.args.table.now.value_count) (length c.args.table.now.truth)
    (c.requires.first c.least_value-x.result (c.loop-rest.invariant.part c.least_value-x.result c.least_value-x.ensures.there)) c.requires.fits)

pub loop-rest-preserved : goal.loop-rest-preserved
loop-rest-preserved c =
    let place : c.args.at * c.from-d.result + c.from-in-loop-rest.result ≡ c.args.at * c.args.table.now.value_count + c.least_value-x.result = (λ i. c.args.at * ((c.from-d.ensures ∙ c.value_count.ensures.is) i) + c.from-in-loop-rest.ensures i) in
    sweep_step c.args.first c.loop-rest.rest (ones_of c.args.second) (ones_of c.args.last ∷ []) (continues c.args.table.now c.args.holding c.args.at) c.loop-rest.a (ones_of c.loop-rest.b ∷ ones_of c.loop-rest.c ∷ []) c.least_value-x.result c.without_value-rest.result c.in_two_beside-below.result.0 c.with_value-a.result (ones_of c.in_two_beside-below.result.1 ∷ []) (ones_of c.either-b.result ∷ ones_of c.either-c.result ∷ [])
    c.loop-rest.invariant c.least_value-x.ensures.there c.without_value-rest.ensures.has
    (subst (λ (k : ℕ). AreSupportedBeside (ones_of c.args.second ∷ (ones_of c.args.last ∷ [])) (continues c.args.table.now c.args.holding k) (ones_of c.loop-rest.b ∷ (ones_of c.loop-rest.c ∷ [])) (ones_of c.in_two_beside-below.result.0 ∷ (ones_of c.in_two_beside-below.result.1 ∷ []))) place c.in_two_beside-below.ensures) c.with_value-a.ensures (c.either-b.ensures, (c.either-c.ensures, tt))

pub returns : goal.returns
returns c = sweep_end c.args.first c.loop-rest.rest (ones_of c.args.second ∷ (ones_of c.args.last ∷ [])) (continues c.args.table.now c.args.holding c.args.at) c.loop-rest.a (ones_of c.loop-rest.b ∷ ones_of c.loop-rest.c ∷ []) c.loop-rest-test.false c.loop-rest.invariant

pub in_two-below-requires-clause-fits : goal.in_two-below-requires-clause-fits
in_two-below-requires-clause-fits c =
    let place : c.args.at * c.from-d.result + c.from.result ≡ c.args.at * c.args.table.now.value_count + c.in-Some.x = (λ i. c.args.at * ((c.from-d.ensures ∙ c.value_count.ensures.is) i) + c.from.ensures i) in
    subst (λ (k : ℕ). (k + 1) * (c.args.table.now.value_count * c.args.table.now.value_count) ≤ length c.args.table.now.truth) (sym place)
    (place_fits c.args.at c.args.table.now.value_count c.in-Some.x (c.args.table.now.value_count * c.args.table.now.value_count) (length c.args.table.now.truth)
    (c.requires.first c.in-Some.x c.in-Some.ensures.only.there) c.requires.fits)

pub returns-in-Some : goal.returns-in-Some
returns-in-Some c =
    let place : c.args.at * c.from-d.result + c.from.result ≡ c.args.at * c.args.table.now.value_count + c.in-Some.x = (λ i. c.args.at * ((c.from-d.ensures ∙ c.value_count.ensures.is) i) + c.from.ensures i) in
    single_supported c.args.first c.in-Some.x c.with_value.result c.in_two-below.result.0 (ones_of c.args.second) (ones_of c.args.last ∷ []) (ones_of c.in_two-below.result.1 ∷ []) (continues c.args.table.now c.args.holding c.args.at) c.in-Some.ensures.only
    (subst (λ (k : ℕ). AreSupported (ones_of c.args.second ∷ ones_of c.args.last ∷ []) (continues c.args.table.now c.args.holding k) (ones_of c.in_two-below.result.0 ∷ ones_of c.in_two-below.result.1 ∷ [])) place c.in_two-below.ensures) c.with_value.ensures
