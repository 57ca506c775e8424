use Rattle.propagators.proofs.Prelude.{◌≡◌, ◌<◌, ◌&&◌, ◌==◌, ◌∙◌, ℕ, not, ap, subst, arith, slice_index_or, bit_at, has, numbers, ones_of, is_wanted}
use Rattle.propagators.proofs.Fixed.{next_one}
use Rattle.propagators.proofs.Masking.{by_rows, tells_row}
use Rattle.propagators.proofs.pairs.tells_apart.Goals as goal

pub loop-x-preserved : goal.loop-x-preserved
loop-x-preserved c = λ x y low few.
    next_one (λ (x : ℕ). (y : ℕ) → y < c.args.lang.now.value_count → is_wanted c.args.holding (bit_at (slice_index_or c.pair_rows-rows.result.now x 0) y == 1) ≡ not (x == y)) c.loop-x.x
    (λ x low y few. c.loop-x.invariant x y low few)
    (tells_row c.args.lang.now.value_count c.loop-x.x c.first_values-all.result (slice_index_or c.pair_rows-rows.result.now c.loop-x.x 0) c.only_value.result c.passing.result c.passing-others.result c.args.holding
    c.requires.lawful.few_values (c.first_values-all.ensures ∙ ap numbers c.d.ensures.is) c.only_value.ensures
    (subst (λ (z : ℕ). (y : ℕ) → has (ones_of c.passing.result) y ≡ (has (ones_of c.first_values-all.result) y && is_wanted c.args.holding (bit_at (slice_index_or c.pair_rows-rows.result.now z 0) y == 1))) c.from.ensures c.passing.ensures)
    c.passing-others.ensures c.if-passing-others.false) x low y few

pub returns : goal.returns
returns c = λ e pairs are x y low few.
    let end = c.loop-x-test.false in
    let d = c.d-x-end.ensures.is in
    by_rows c.args.lang.now pairs c.args.table c.args.holding c.pair_rows-rows.result.now (c.pair_rows-rows.ensures.masks pairs are) x y low few ∙ c.loop-x.invariant x y (omega arith) few
