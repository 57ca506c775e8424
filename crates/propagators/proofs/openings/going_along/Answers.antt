use Rattle.propagators.proofs.Prelude.{◌≡◌, ◌+◌, ◌-◌, ◌*◌, ◌^◌, ◌∙◌, [], length, sym, ap, arith, ◌&&◌, slice_index_or, has, ones_of, is_wanted, truth_at}
use Rattle.propagators.proofs.Steps.{reads_below, reads_along, same_where, last_step}
use Rattle.propagators.proofs.openings.going_along.Goals as goal

pub row-requires : goal.row-requires
row-requires c =
    let d = c.args.table.now.value_count in
    let some = c.value_count-d.ensures.lawful.values in
    let last = c.if-after-eq0.true in
    let low = c.requires.place in
    let below = reads_below c.args.table.now c.args.holding c.args.doms.now c.args.scope.now c.args.opening.place c.args.opening.first 1 c.requires.known c.requires.full low c.requires.first
    (last_step d (length c.args.scope.now) c.args.opening.place (omega arith)) c.requires.below (d - 1) (omega arith) in
    omega (arith, below, c.value_count-d.ensures.lawful.each, ap (λ k. d ^ k) c.requires.arity)

pub returns-then-after-eq0 : goal.returns-then-after-eq0
returns-then-after-eq0 c =
    let d = c.args.table.now.value_count in
    let last = c.if-after-eq0.true in
    let low = c.requires.place in
    reads_along c.args.table.now c.args.holding c.args.doms.now c.args.scope.now c.args.opening.place c.args.opening.first 1 c.requires.known c.requires.full low c.requires.first
    (last_step d (length c.args.scope.now) c.args.opening.place (omega arith)) (ones_of c.passing.result)
    (λ x. c.passing.ensures x
    ∙ same_where (has (slice_index_or c.args.doms.now (slice_index_or c.args.scope.now c.args.opening.place 0) []) x) _ _ (λ there. ap (is_wanted c.args.holding) (c.row.ensures x (c.requires.below (slice_index_or c.args.scope.now c.args.opening.place 0) x there)
    ∙ ap (truth_at c.args.table.now) (let one : c.args.opening.first + x ≡ c.args.opening.first + x * 1 = omega arith in one))))

pub in_steps-requires-clause-fits : goal.in_steps-requires-clause-fits
in_steps-requires-clause-fits c = λ x there.
    let d = c.args.table.now.value_count in
    let below = reads_below c.args.table.now c.args.holding c.args.doms.now c.args.scope.now c.args.opening.place c.args.opening.first c.step_of.result c.requires.known c.requires.full c.requires.place c.requires.first
    (c.step_of.ensures ∙ ap (λ d. d ^ (length c.args.scope.now - 1 - c.args.opening.place)) c.value_count-d.ensures.is) c.requires.below x
    (c.requires.below (slice_index_or c.args.scope.now c.args.opening.place 0) x (ap (λ xs. has xs x) (sym c.values.ensures) ∙ there)) in
    omega (arith, below, c.value_count-d.ensures.lawful.each, ap (λ k. d ^ k) c.requires.arity)

pub returns : goal.returns
returns c =
    reads_along c.args.table.now c.args.holding c.args.doms.now c.args.scope.now c.args.opening.place c.args.opening.first c.step_of.result c.requires.known c.requires.full c.requires.place c.requires.first
    (c.step_of.ensures ∙ ap (λ d. d ^ (length c.args.scope.now - 1 - c.args.opening.place)) c.value_count-d.ensures.is) (ones_of c.in_steps.result)
    (λ x. c.in_steps.ensures x ∙ ap (λ xs. has xs x && is_wanted c.args.holding (truth_at c.args.table.now (c.args.opening.first + x * c.step_of.result))) c.values.ensures)
