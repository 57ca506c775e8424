use Rattle.find_c.proofs.Prelude.{◌≡◌, ◌+◌, ◌^◌, length, get_or, Some, [], sym, ◌∙◌, ap, arith, trailing_zeros, w64, tuples, scope_at, scene_of}
use Rattle.find_c.proofs.Lawful.{few_places}
use Rattle.find_c.proofs.Splitting.{found_in_row, found_nowhere, from_next_row, lowest_is, none_of_one, row_fits}
use Rattle.find_c.proofs.run.tuple_searched.Goals as goal

pub returns-then-is_single : goal.returns-then-is_single
returns-then-is_single c = sym (none_of_one (scene_of c.args.lang.now c.args.s) c.args.choices.now (c.is_single.ensures.0 c.if-is_single.true))

pub first_row-place-requires-clause-places : goal.first_row-place-requires-clause-places
first_row-place-requires-clause-places c = c.place_count-places.ensures ∙ (λ i. c.d-value_count.ensures.is i ^ ap length c.scope.ensures.is i)

pub loop-place-init : goal.loop-place-init
loop-place-init c = c.first_row-place.ensures.found

pub differences-y-requires-clause-row : goal.differences-y-requires-clause-row
differences-y-requires-clause-row c = c.loop-place.invariant.row

pub differences-y-requires-clause-below : goal.differences-y-requires-clause-below
differences-y-requires-clause-below c =
    let all : c.place_count-places.result ≡ c.args.lang.now.value_count ^ length (scope_at c.args.lang.now c.args.s) = c.place_count-places.ensures ∙ (λ i. c.d-value_count.ensures.is i ^ ap length c.scope.ensures.is i) in
    let low = c.loop-place-test.true in
    omega arith

pub overflow_add-place : goal.overflow_add-place
overflow_add-place c =
    let all : c.place_count-places.result ≡ c.args.lang.now.value_count ^ length (scope_at c.args.lang.now c.args.s) = c.place_count-places.ensures ∙ (λ i. c.d-value_count.ensures.is i ^ ap length c.scope.ensures.is i) in
    let low = c.loop-place-test.true in
    let fits = row_fits c.args.lang.now.value_count (c.args.lang.now.value_count ^ length (scope_at c.args.lang.now c.args.s)) c.loop-place.place c.loop-place.invariant.row (omega arith) in
    let few = few_places c.args.lang.now c.d-value_count.ensures.lawful c.args.s c.requires.scope in
    let row = c.from-row.ensures in
    let values = c.d-value_count.ensures.is in
    omega arith

pub returns-then-y-row : goal.returns-then-y-row
returns-then-y-row c =
    let all : c.place_count-places.result ≡ c.args.lang.now.value_count ^ length (scope_at c.args.lang.now c.args.s) = c.place_count-places.ensures ∙ (λ i. c.d-value_count.ensures.is i ^ ap length c.scope.ensures.is i) in
    let low = c.loop-place-test.true in
    let fits = row_fits c.args.lang.now.value_count (c.args.lang.now.value_count ^ length (scope_at c.args.lang.now c.args.s)) c.loop-place.place c.loop-place.invariant.row (omega arith) in
    let values = c.d-value_count.ensures.is in
    let size = ap length c.scope.ensures.is in
    let y = trailing_zeros w64 c.differences-y.result in
    ap Some (c.at.ensures ∙ (λ i. get_or (tuples (values i) (size i)) (c.loop-place.place + y) []))
    ∙ sym (found_in_row (scene_of c.args.lang.now c.args.s) c.args.choices.now c.loop-place.place c.differences-y.result y fits c.d-value_count.ensures.lawful.few_values c.differences-y.ensures
    (lowest_is c.differences-y.result c.differences-y.type_inv) (let row = c.from-row.ensures in let below = c.if-y-row.true in omega arith))
    ∙ c.loop-place.invariant.found

pub loop-place-preserved : goal.loop-place-preserved
loop-place-preserved c =
    let all : c.place_count-places.result ≡ c.args.lang.now.value_count ^ length (scope_at c.args.lang.now c.args.s) = c.place_count-places.ensures ∙ (λ i. c.d-value_count.ensures.is i ^ ap length c.scope.ensures.is i) in
    let low = c.loop-place-test.true in
    let past = c.if-y-row.false in
    from_next_row c.args.lang.now c.args.s c.args.choices.now c.loop-place.place c.from-row.result c.differences-y.result (trailing_zeros w64 c.differences-y.result) c.loop-place.invariant (omega arith)
    c.d-value_count.ensures.lawful.few_values (c.from-row.ensures ∙ c.d-value_count.ensures.is) c.differences-y.ensures (lowest_is c.differences-y.result c.differences-y.type_inv) (omega arith)

pub returns : goal.returns
returns c =
    let all : c.place_count-places.result ≡ c.args.lang.now.value_count ^ length (scope_at c.args.lang.now c.args.s) = c.place_count-places.ensures ∙ (λ i. c.d-value_count.ensures.is i ^ ap length c.scope.ensures.is i) in
    sym (found_nowhere (scene_of c.args.lang.now c.args.s) c.args.choices.now c.loop-place.place (let past = c.loop-place-test.false in omega arith)) ∙ c.loop-place.invariant.found
