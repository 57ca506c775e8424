use Rattle.find_c.proofs.Prelude.{ℕ, suc, ◌+◌, ◌-◌, ◌<◌, ◌≡◌, ◌^◌, ◌&&◌, length, take, get_or, not, sym, ◌∙◌, ap, arith, bit_at-zero, ◌==◌, tuple_at, scope_at, range_of, is_in, range_in, are_in, is_outside, is_one-not}
use Rattle.find_c.proofs.Splitting.{row_fits}
use Rattle.find_c.proofs.Outside.{inside_row, none_outside}
use Rattle.find_c.proofs.choices.outside_row.Goals as goal
use Rattle.find_c.proofs.choices.outside_row.Goals.{After-are_in}

pub returns-then-is_whole : goal.returns-then-is_whole
returns-then-is_whole c = λ y low. ap (λ x. x == 1) (bit_at-zero y)
    ∙ sym (none_outside c.args.lang.now c.args.s (c.args.place + y) c.requires.lawful (sym c.is_whole.ensures ∙ c.if-is_whole.true)
    (let fits = row_fits c.args.lang.now.value_count (c.args.lang.now.value_count ^ length (scope_at c.args.lang.now c.args.s)) c.args.place c.requires.row c.requires.below in omega arith))

inside : (c : After-are_in) → (y : ℕ) → y < c.args.lang.now.value_count →
    is_outside c.args.lang.now c.args.s (c.args.place + y) ≡ not (c.are_in.result && is_in (range_of c.args.lang.now (get_or c.scope-scope.result.now (length c.scope-scope.result.now - 1) 0)) y)
inside c y low =
    let l = c.args.lang.now in
    let last : ℕ = length c.scope-scope.result.now - 1 in
    let scope = scope_at l c.args.s in
    let is = c.scope-scope.ensures.is in
    let some = c.scope-scope.ensures.scope.not_empty in
    let wide : length scope ≡ suc last = ap length (sym is) ∙ (omega arith) in
    ap not (
    inside_row l.ranges l.value_count scope c.tuple_of-tuple.result c.args.place last y c.requires.row c.requires.below low wide
    ((λ i. take (length (sym is i)) c.tuple_of-tuple.result) ∙ c.tuple_of-tuple.ensures.values ∙ (λ i. tuple_at (c.d.ensures.is i) (length (is i)) c.args.place))
    ∙ (λ i. are_in l.ranges (take last (sym is i)) (take last c.tuple_of-tuple.result) && is_in (range_in l.ranges (get_or (sym is i) last 0)) y)
    ∙ ap (λ b. b && is_in (range_of l (get_or c.scope-scope.result.now last 0)) y) (sym c.are_in.ensures)
    )

pub returns-then-are_in : goal.returns-then-are_in
returns-then-are_in c = λ y low.
    is_one-not c.range_mask.result y c.range_mask.type_inv (let few = c.requires.lawful.few_values in omega arith)
    ∙ ap not (c.range_mask.ensures y low)
    ∙ ap (λ b. not (b && is_in (range_of c.args.lang.now (get_or c.scope-scope.result.now (length c.scope-scope.result.now - 1) 0)) y)) (sym c.if-are_in.true)
    ∙ sym (inside (goal.at.returns-then-are_in c).After-are_in y low)

pub returns-else-are_in : goal.returns-else-are_in
returns-else-are_in c = λ y low.
    is_one-not 0 y (omega arith) (let few = c.requires.lawful.few_values in omega arith)
    ∙ ap (λ x. not (x == 1)) (bit_at-zero y)
    ∙ ap (λ b. not (b && is_in (range_of c.args.lang.now (get_or c.scope-scope.result.now (length c.scope-scope.result.now - 1) 0)) y)) (sym c.if-are_in.false)
    ∙ sym (inside (goal.at.returns-else-are_in c).After-are_in y low)
