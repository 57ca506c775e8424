use Rattle.bias_store.proofs.Prelude.{◌+◌, ◌-◌, ◌*◌, length, get_or, refl, sym, ◌∙◌, ap, subst, arith, IfNone, value_fits, AreNoneViolated}
use Rattle.bias_store.proofs.Rows.{row_small}
use Rattle.bias_store.proofs.Violating.{row_read, row_two, row_end, room, none_here, first_here, length-slice_range, range_is, row_of_masks}
use Rattle.bias_store.proofs.tables.Tables.next_in_row.Goals as goal

pub bounds-scope-1 : goal.bounds-scope-1
bounds-scope-1 c =
    let two = ap length c.scope.ensures.is ∙ row_two c.args.lang.now _ _ c.args.s c.from.result c.index-end.result.now c.self.view_is c.requires.made c.requires.scope c.from.ensures c.index-end.ensures c.requires.row in
    omega (arith, two)

pub slice_bounds-accepting-end : goal.slice_bounds-accepting-end
slice_bounds-accepting-end c =
    let l = c.args.lang.now in
    let is = row_read l c.args.q.now _ _ c.args.s c.from.result c.from-2.result c.index-end.result.now c.args.value c.index.result.now c.from-3.result c.from-d.result c.self.view_is c.d.ensures.lawful c.requires.made c.requires.question c.requires.scope
    c.from.ensures c.index-end.ensures c.requires.row c.requires.value c.from-2.ensures c.index.ensures c.from-3.ensures (c.from-d.ensures ∙ c.d.ensures.is) in
    let fits = room l c.args.q.now _ c.args.left.now c.args.s c.index-end.result.now c.args.value _ is in
    omega (arith, fits, c.deref.ensures.len)

pub first_in_row-requires-clause-row : goal.first_in_row-requires-clause-row
first_in_row-requires-clause-row c =
    let l = c.args.lang.now in
    let is = row_read l c.args.q.now _ _ c.args.s c.from.result c.from-2.result c.index-end.result.now c.args.value c.index.result.now c.from-3.result c.from-d.result c.self.view_is c.d.ensures.lawful c.requires.made c.requires.question c.requires.scope
    c.from.ensures c.index-end.ensures c.requires.row c.requires.value c.from-2.ensures c.index.ensures c.from-3.ensures (c.from-d.ensures ∙ c.d.ensures.is) in
    let some = is.some in
    let inside = is.inside in
    let all = c.requires.left in
    row_of_masks c.args.left.now _ c.args.s c.args.s c.index-end.result.now (range_is _ c.args.left.now c.from-4.result c.args.s c.from-5.result c.index-end.result.now c.masks.ensures c.from-4.ensures c.from-5.ensures) refl (omega arith) (omega arith)

pub first_in_row-requires-clause-variables : goal.first_in_row-requires-clause-variables
first_in_row-requires-clause-variables c =
    let l = c.args.lang.now in
    let is = row_read l c.args.q.now _ _ c.args.s c.from.result c.from-2.result c.index-end.result.now c.args.value c.index.result.now c.from-3.result c.from-d.result c.self.view_is c.d.ensures.lawful c.requires.made c.requires.question c.requires.scope
    c.from.ensures c.index-end.ensures c.requires.row c.requires.value c.from-2.ensures c.index.ensures c.from-3.ensures (c.from-d.ensures ∙ c.d.ensures.is) in
    let some = is.some in
    let last = row_small l _ c.args.s c.index-end.result.now (c.index-end.result.now - 1 - c.args.s) c.d.ensures.lawful is.row is.inside (omega arith) in
    let same = c.from-second.ensures ∙ ap (λ xs. get_or xs 1 0) c.scope.ensures.is in
    let all = c.requires.left in
    let inside = is.inside in
    omega (arith, last, same, c.from-4.ensures, c.from-5.ensures, ap length c.masks.ensures, length-slice_range c.masks.result.now c.from-4.result c.from-5.result (omega (arith, c.from-5.ensures, ap length c.masks.ensures)))

pub first_in_row-requires-clause-values : goal.first_in_row-requires-clause-values
first_in_row-requires-clause-values c v y some =
    let l = c.args.lang.now in
    let is = row_read l c.args.q.now _ _ c.args.s c.from.result c.from-2.result c.index-end.result.now c.args.value c.index.result.now c.from-3.result c.from-d.result c.self.view_is c.d.ensures.lawful c.requires.made c.requires.question c.requires.scope
    c.from.ensures c.index-end.ensures c.requires.row c.requires.value c.from-2.ensures c.index.ensures c.from-3.ensures (c.from-d.ensures ∙ c.d.ensures.is) in
    let fits = room l c.args.q.now _ c.args.left.now c.args.s c.index-end.result.now c.args.value _ is in
    let low = value_fits l.value_count v y c.args.q.now _ c.requires.question.values_fit refl some in
    let same = c.from-d.ensures ∙ c.d.ensures.is in
    omega (arith, low, same, length-slice_range c.deref.result.now (c.index.result.now + c.from-3.result * c.from-d.result) (c.index.result.now + c.from-3.result * c.from-d.result + c.from-d.result) (omega (arith, fits, same, c.deref.ensures.len)))

pub returns-in_err-place-clause-none : goal.returns-in_err-place-clause-none
returns-in_err-place-clause-none c =
    let l = c.args.lang.now in
    let is = row_read l c.args.q.now _ _ c.args.s c.from.result c.from-2.result c.index-end.result.now c.args.value c.index.result.now c.from-3.result c.from-d.result c.self.view_is c.d.ensures.lawful c.requires.made c.requires.question c.requires.scope
    c.from.ensures c.index-end.ensures c.requires.row c.requires.value c.from-2.ensures c.index.ensures c.from-3.ensures (c.from-d.ensures ∙ c.d.ensures.is) in
    let row_is = range_is _ c.args.left.now c.from-4.result c.args.s c.from-5.result c.index-end.result.now c.masks.ensures c.from-4.ensures c.from-5.ensures in
    let d_is = c.from-d.ensures ∙ c.d.ensures.is in
    let begin = c.index.result.now + c.from-3.result * c.from-d.result in
    let accepting_is = range_is c.deref.result.now _ begin begin _ (begin + l.value_count) c.deref.ensures.value refl (ap (λ d. begin + d) d_is) in
    let second_is = c.from-second.ensures ∙ ap (λ xs. get_or xs 1 0) c.scope.ensures.is in
    let inside = is.inside in
    let all = c.requires.left in
    let end = row_end l _ _ c.args.s c.from.result c.index-end.result.now c.self.view_is c.requires.made c.requires.scope c.from.ensures c.index-end.ensures in
    subst (λ o. IfNone o (AreNoneViolated l c.args.q.now c.args.left.now c.args.s (get_or c.args.self.now.rows c.args.s 0))) (sym c.from_residual.ensures)
    (subst (AreNoneViolated l c.args.q.now c.args.left.now c.args.s) end
    (none_here l c.args.q.now _ c.args.left.now c.args.s c.index-end.result.now c.args.value _ is _ _ _ row_is accepting_is second_is (omega arith) c.in_err-place.ensures.none))

pub returns-clause-found : goal.returns-clause-found
returns-clause-found c =
    let l = c.args.lang.now in
    let is = row_read l c.args.q.now _ _ c.args.s c.from.result c.from-2.result c.index-end.result.now c.args.value c.index.result.now c.from-3.result c.from-d.result c.self.view_is c.d.ensures.lawful c.requires.made c.requires.question c.requires.scope
    c.from.ensures c.index-end.ensures c.requires.row c.requires.value c.from-2.ensures c.index.ensures c.from-3.ensures (c.from-d.ensures ∙ c.d.ensures.is) in
    let row_is = range_is _ c.args.left.now c.from-4.result c.args.s c.from-5.result c.index-end.result.now c.masks.ensures c.from-4.ensures c.from-5.ensures in
    let d_is = c.from-d.ensures ∙ c.d.ensures.is in
    let begin = c.index.result.now + c.from-3.result * c.from-d.result in
    let accepting_is = range_is c.deref.result.now _ begin begin _ (begin + l.value_count) c.deref.ensures.value refl (ap (λ d. begin + d) d_is) in
    let second_is = c.from-second.ensures ∙ ap (λ xs. get_or xs 1 0) c.scope.ensures.is in
    let inside = is.inside in
    let all = c.requires.left in
    first_here l c.args.q.now _ c.args.left.now c.args.s c.index-end.result.now c.args.value _ is _ _ _ row_is accepting_is second_is (omega arith) c.in_ok-place.place c.in_ok-place.violated c.in_ok-place.ensures.found
