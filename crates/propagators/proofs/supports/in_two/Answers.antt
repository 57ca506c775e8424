use Rattle.propagators.proofs.Prelude.{◌≡◌, ◌≤◌, ◌+◌, ◌*◌, ◌∙◌, ℕ, [], ◌∷◌, length, sym, subst, ones_of, AreSupported, continues, ones_of-zero}
use Rattle.propagators.proofs.Sweeping.{sweep_begin, sweep_step, sweep_end, supported_beside, place_fits}
use Rattle.propagators.proofs.supports.in_two.Goals as goal

pub loop-rest-init : goal.loop-rest-init
loop-rest-init c = sweep_begin c.args.first (ones_of c.args.last ∷ []) (continues c.args.table.now c.args.holding c.args.at) (ones_of 0 ∷ []) (ones_of-zero, tt)

pub in_one-below-requires-clause-fits : goal.in_one-below-requires-clause-fits
in_one-below-requires-clause-fits c =
    let place : c.args.at * c.from-d.result + c.from.result ≡ c.args.at * c.args.table.now.value_count + c.least_value-x.result = (λ i. c.args.at * ((c.from-d.ensures ∙ c.value_count.ensures.is) i) + c.from.ensures i) in
    subst (λ (k : ℕ). (k + 1) * c.args.table.now.value_count ≤ length c.args.table.now.truth) (sym place)
    (place_fits c.args.at c.args.table.now.value_count c.least_value-x.result c.args.table.now.value_count (length c.args.table.now.truth)
    (c.requires.first c.least_value-x.result (c.loop-rest.invariant.part c.least_value-x.result c.least_value-x.ensures.there)) c.requires.fits)

pub loop-rest-preserved : goal.loop-rest-preserved
loop-rest-preserved c =
    let place : c.args.at * c.from-d.result + c.from.result ≡ c.args.at * c.args.table.now.value_count + c.least_value-x.result = (λ i. c.args.at * ((c.from-d.ensures ∙ c.value_count.ensures.is) i) + c.from.ensures i) in
    sweep_step c.args.first c.loop-rest.rest (ones_of c.args.last) [] (continues c.args.table.now c.args.holding c.args.at) c.loop-rest.a (ones_of c.loop-rest.b ∷ []) c.least_value-x.result c.without_value-rest.result c.in_one-below.result c.with_value-a.result [] (ones_of c.either-b.result ∷ [])
    c.loop-rest.invariant c.least_value-x.ensures.there c.without_value-rest.ensures.has
    (supported_beside (ones_of c.args.last ∷ []) (continues c.args.table.now c.args.holding (c.args.at * c.args.table.now.value_count + c.least_value-x.result)) (ones_of c.loop-rest.b ∷ []) (ones_of c.in_one-below.result ∷ [])
    (subst (λ (k : ℕ). AreSupported (ones_of c.args.last ∷ []) (continues c.args.table.now c.args.holding k) (ones_of c.in_one-below.result ∷ [])) place c.in_one-below.ensures)) c.with_value-a.ensures (c.either-b.ensures, tt)

pub returns : goal.returns
returns c = sweep_end c.args.first c.loop-rest.rest (ones_of c.args.last ∷ []) (continues c.args.table.now c.args.holding c.args.at) c.loop-rest.a (ones_of c.loop-rest.b ∷ []) c.loop-rest-test.false c.loop-rest.invariant
