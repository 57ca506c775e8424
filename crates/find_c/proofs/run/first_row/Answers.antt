use Rattle.find_c.proofs.Prelude.{◌+◌, ◌^◌, ◌<◌, get_or, length, false, inl, inr, sym, ◌∙◌, ap, arith, bit_not, trailing_zeros, w64, scope_at, scene_of}
use Rattle.find_c.proofs.Splitting.{from_next_row, at_end, lowest_is, rejecting_row}
use Rattle.find_c.proofs.run.first_row.Goals as goal

pub returns-then-y-row-clause-furthest : goal.returns-then-y-row-clause-furthest
returns-then-y-row-clause-furthest c = λ r is whole.
    let few = c.d.ensures.lawful.few_values in
    let not_row = bit_not w64 c.row.result in
    let y = trailing_zeros w64 not_row in
    let below : y < c.args.lang.now.value_count = omega (arith, c.if-y-row.true, c.from-row.ensures, c.d.ensures.is) in
    inr (
      y,
      below,
      sym (rejecting_row (scene_of c.args.lang.now c.args.s) c.args.choices.now c.in-Some.r c.loop-place.place c.row.result c.row.type_inv few (sym c.beside_none.ensures ∙ c.in-Some.is)
          (λ k low. c.row.ensures k (omega (arith, c.table_on-table.ensures.values))
          ∙ ap (λ t. get_or t (c.loop-place.place + k) false) (c.table_on-table.ensures.whole (sym c.is_whole.ensures ∙ c.if-not-is_whole.false)))
          y below)
          ∙ (lowest_is not_row (omega arith)).one (omega arith),
    )

pub loop-place-preserved : goal.loop-place-preserved
loop-place-preserved c =
    let few = c.d.ensures.lawful.few_values in
    let not_row = bit_not w64 c.row.result in
    let low : c.loop-place.place < c.args.lang.now.value_count ^ length (scope_at c.args.lang.now c.args.s) = omega (arith, c.loop-place-test.true, c.requires.places) in
    from_next_row c.args.lang.now c.args.s c.args.choices.now c.loop-place.place c.from-row.result not_row (trailing_zeros w64 not_row) c.loop-place.invariant low few (c.from-row.ensures ∙ c.d.ensures.is)
    (rejecting_row (scene_of c.args.lang.now c.args.s) c.args.choices.now c.in-Some.r c.loop-place.place c.row.result c.row.type_inv few (sym c.beside_none.ensures ∙ c.in-Some.is)
    (λ k low. c.row.ensures k (omega (arith, c.table_on-table.ensures.values))
    ∙ ap (λ t. get_or t (c.loop-place.place + k) false) (c.table_on-table.ensures.whole (sym c.is_whole.ensures ∙ c.if-not-is_whole.false))))
    (lowest_is not_row (omega arith)) (omega arith)

pub returns-clause-furthest : goal.returns-clause-furthest
returns-clause-furthest c = λ r is whole. inl (at_end c.args.lang.now.value_count (c.args.lang.now.value_count ^ length (scope_at c.args.lang.now c.args.s)) c.loop-place.place c.loop-place.invariant.row
    (omega (arith, c.loop-place-test.false, c.requires.places)))
