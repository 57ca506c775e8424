use Rattle.propagators.proofs.Prelude.{◌≡◌, ◌≤◌, ◌+◌, ◌*◌, ◌∙◌, ℕ, [], ◌∷◌, length, refl, sym, subst, ones_of, HasTuple, HasNoTuple, continues}
use Rattle.propagators.proofs.Sweeping.{barren_begin, barren_step, barren_end, tuple_there, place_fits}
use Rattle.propagators.proofs.supports.is_any_in_three.Goals as goal

pub loop-rest-init : goal.loop-rest-init
loop-rest-init c = barren_begin c.args.first (ones_of c.args.second ∷ ones_of c.args.last ∷ []) (continues c.args.table.now c.args.holding c.args.at)

pub is_any_in_two-requires-clause-fits : goal.is_any_in_two-requires-clause-fits
is_any_in_two-requires-clause-fits c =
    let place : c.args.at * c.from-d.result + c.from.result ≡ c.args.at * c.args.table.now.value_count + c.least_value-x.result = (λ i. c.args.at * ((c.from-d.ensures ∙ c.value_count.ensures.is) i) + c.from.ensures i) in
    subst (λ (k : ℕ). (k + 1) * (c.args.table.now.value_count * c.args.table.now.value_count) ≤ length c.args.table.now.truth) (sym place)
    (place_fits c.args.at c.args.table.now.value_count c.least_value-x.result (c.args.table.now.value_count * c.args.table.now.value_count) (length c.args.table.now.truth)
    (c.requires.first c.least_value-x.result (c.loop-rest.invariant.part c.least_value-x.result c.least_value-x.ensures.there)) c.requires.fits)

pub returns-then-is_any_in_two-clause-some : goal.returns-then-is_any_in_two-clause-some
returns-then-is_any_in_two-clause-some c = λ e.
    let place : c.args.at * c.from-d.result + c.from.result ≡ c.args.at * c.args.table.now.value_count + c.least_value-x.result = (λ i. c.args.at * ((c.from-d.ensures ∙ c.value_count.ensures.is) i) + c.from.ensures i) in
    tuple_there c.args.first c.loop-rest.rest (ones_of c.args.second ∷ ones_of c.args.last ∷ []) (continues c.args.table.now c.args.holding c.args.at) c.least_value-x.result c.loop-rest.invariant c.least_value-x.ensures.there
    (subst (λ (k : ℕ). HasTuple (ones_of c.args.second ∷ ones_of c.args.last ∷ []) (continues c.args.table.now c.args.holding k)) place (c.if-is_any_in_two.ensures.some refl))

pub loop-rest-preserved : goal.loop-rest-preserved
loop-rest-preserved c =
    let place : c.args.at * c.from-d.result + c.from.result ≡ c.args.at * c.args.table.now.value_count + c.least_value-x.result = (λ i. c.args.at * ((c.from-d.ensures ∙ c.value_count.ensures.is) i) + c.from.ensures i) in
    barren_step c.args.first c.loop-rest.rest (ones_of c.args.second ∷ ones_of c.args.last ∷ []) (continues c.args.table.now c.args.holding c.args.at) c.least_value-x.result c.without_value-rest.result c.loop-rest.invariant c.without_value-rest.ensures.has
    (subst (λ (k : ℕ). HasNoTuple (ones_of c.args.second ∷ ones_of c.args.last ∷ []) (continues c.args.table.now c.args.holding k)) place (c.if-is_any_in_two.ensures.none refl))

pub returns-clause-none : goal.returns-clause-none
returns-clause-none c = λ e. barren_end c.args.first c.loop-rest.rest (ones_of c.args.second ∷ ones_of c.args.last ∷ []) (continues c.args.table.now c.args.holding c.args.at) c.loop-rest-test.false c.loop-rest.invariant
