use Rattle.cert_check.proofs.Prelude.{◌≡◌, ℕ, ◌+◌, ◌*◌, ◌-◌, ◌^◌, ◌<◌, ◌≤◌, false, not, length, Some, sym, ◌∙◌, ap, subst, arith, ◌==◌, bit_at-zero, scope_at, slice_set, slice_index_or}
use Rattle.assign.proofs.Ones.{is_one-not}
use Rattle.language.specs.Language.{relation_of}
use Rattle.cert_check.proofs.OnLine.{violates_at, violates_nowhere}
use Rattle.cert_check.proofs.Values.{value_below, value_small}
use Rattle.cert_check.proofs.siblings.violating.Goals as goal

pub returns-in_default : goal.returns-in_default
returns-in_default c = λ x at. ap (λ b. b == 1) (bit_at-zero x) ∙ sym (violates_nowhere c.args.lang.now c.args.c (slice_set c.args.e.now c.args.v (Some x)) (c.in_default.ensures.none x))

pub row_on-requires-clause-row : goal.row_on-requires-clause-row
row_on-requires-clause-row c =
    let l = c.args.lang.now in
    let some = c.requires.lawful.some_value in
    let last : c.in-Some.line.place + (l.value_count - 1) * 1 < l.value_count ^ length (scope_at l c.args.c.scope) =
    subst (λ s. c.in-Some.line.place + (l.value_count - 1) * s < l.value_count ^ length (scope_at l c.args.c.scope)) c.if-line-eq1.true (c.in-Some.ensures.below (l.value_count - 1) (omega arith)) in
    omega arith

pub returns-then-line-eq1 : goal.returns-then-line-eq1
returns-then-line-eq1 c = λ x at.
    let l = c.args.lang.now in
    let at_one : c.in-Some.line.place + x ≡ c.in-Some.line.place + x * c.in-Some.line.stride =
    (let e : c.in-Some.line.place + x ≡ c.in-Some.line.place + x * 1 = omega arith in e) ∙ ap (λ s. c.in-Some.line.place + x * s) (sym c.if-line-eq1.true) in
    is_one-not c.row_on.result x c.row_on.type_inv (value_small l c.requires.lawful c.args.v x c.requires.known at)
    ∙ ap not (c.row_on.ensures x (value_below l c.requires.lawful c.args.v x c.requires.known at))
    ∙ ap (λ p. not (slice_index_or (relation_of l c.args.c) p false)) at_one
    ∙ sym (violates_at l c.args.c (slice_set c.args.e.now c.args.v (Some x)) (c.in-Some.line.place + x * c.in-Some.line.stride) (c.in-Some.ensures.line x))

pub returns-else-line-eq1 : goal.returns-else-line-eq1
returns-else-line-eq1 c = λ x at.
    c.rejecting.ensures x at ∙ sym (violates_at c.args.lang.now c.args.c (slice_set c.args.e.now c.args.v (Some x)) (c.in-Some.line.place + x * c.in-Some.line.stride) (c.in-Some.ensures.line x))
