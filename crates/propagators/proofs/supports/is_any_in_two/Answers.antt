use Rattle.propagators.proofs.Prelude.{◌≡◌, ◌≤◌, ◌+◌, ◌*◌, ◌∙◌, ℕ, Bool, true, false, not, [], ◌∷◌, length, refl, sym, subst, ones_of, AreSupported, continues, is_not_empty}
use Rattle.propagators.proofs.Sweeping.{barren_begin, barren_step, barren_end, tuple_there, some_supported, none_supported, place_fits}
use Rattle.propagators.proofs.supports.is_any_in_two.Goals as goal

pub loop-rest-init : goal.loop-rest-init
loop-rest-init c = barren_begin c.args.first (ones_of c.args.last ∷ []) (continues c.args.table.now c.args.holding c.args.at)

pub in_one-below-requires-clause-fits : goal.in_one-below-requires-clause-fits
in_one-below-requires-clause-fits c =
    let place : c.args.at * c.from-d.result + c.from.result ≡ c.args.at * c.args.table.now.value_count + c.least_value-x.result = (λ i. c.args.at * ((c.from-d.ensures ∙ c.value_count.ensures.is) i) + c.from.ensures i) in
    subst (λ (k : ℕ). (k + 1) * c.args.table.now.value_count ≤ length c.args.table.now.truth) (sym place)
    (place_fits c.args.at c.args.table.now.value_count c.least_value-x.result c.args.table.now.value_count (length c.args.table.now.truth)
    (c.requires.first c.least_value-x.result (c.loop-rest.invariant.part c.least_value-x.result c.least_value-x.ensures.there)) c.requires.fits)

some : (r n : Bool) → r ≡ not n → r ≡ false → n ≡ true
some r true is e = refl
some r false is e = cc

nothing : (r n : Bool) → r ≡ not n → r ≡ true → n ≡ false
nothing r true is e = cc
nothing r false is e = refl

pub returns-then-not-is_empty-clause-some : goal.returns-then-not-is_empty-clause-some
returns-then-not-is_empty-clause-some c = λ e.
    let place : c.args.at * c.from-d.result + c.from.result ≡ c.args.at * c.args.table.now.value_count + c.least_value-x.result = (λ i. c.args.at * ((c.from-d.ensures ∙ c.value_count.ensures.is) i) + c.from.ensures i) in
    tuple_there c.args.first c.loop-rest.rest (ones_of c.args.last ∷ []) (continues c.args.table.now c.args.holding c.args.at) c.least_value-x.result c.loop-rest.invariant c.least_value-x.ensures.there
    (some_supported (ones_of c.args.last ∷ []) (continues c.args.table.now c.args.holding (c.args.at * c.args.table.now.value_count + c.least_value-x.result)) c.in_one-below.result
    (subst (λ (k : ℕ). AreSupported (ones_of c.args.last ∷ []) (continues c.args.table.now c.args.holding k) (ones_of c.in_one-below.result ∷ [])) place c.in_one-below.ensures)
    (some c.is_empty.result (is_not_empty (ones_of c.in_one-below.result)) c.is_empty.ensures c.if-not-is_empty.true))

pub loop-rest-preserved : goal.loop-rest-preserved
loop-rest-preserved c =
    let place : c.args.at * c.from-d.result + c.from.result ≡ c.args.at * c.args.table.now.value_count + c.least_value-x.result = (λ i. c.args.at * ((c.from-d.ensures ∙ c.value_count.ensures.is) i) + c.from.ensures i) in
    barren_step c.args.first c.loop-rest.rest (ones_of c.args.last ∷ []) (continues c.args.table.now c.args.holding c.args.at) c.least_value-x.result c.without_value-rest.result c.loop-rest.invariant c.without_value-rest.ensures.has
    (none_supported (ones_of c.args.last ∷ []) (continues c.args.table.now c.args.holding (c.args.at * c.args.table.now.value_count + c.least_value-x.result)) c.in_one-below.result
    (subst (λ (k : ℕ). AreSupported (ones_of c.args.last ∷ []) (continues c.args.table.now c.args.holding k) (ones_of c.in_one-below.result ∷ [])) place c.in_one-below.ensures)
    (nothing c.is_empty.result (is_not_empty (ones_of c.in_one-below.result)) c.is_empty.ensures c.if-not-is_empty.false))

pub returns-clause-none : goal.returns-clause-none
returns-clause-none c = λ e. barren_end c.args.first c.loop-rest.rest (ones_of c.args.last ∷ []) (continues c.args.table.now c.args.holding c.args.at) c.loop-rest-test.false c.loop-rest.invariant
