use Rattle.cert_check.proofs.Prelude.{◌≡◌, ◌≢◌, ◌<◌, ◌≤◌, ℕ, ◌+◌, ◌*◌, List, get_or, refl, sym, ◌∙◌, ap, subst, arith, length, scope_at, value_of}
use Rattle.cert_check.proofs.OnLine.{line_begins, line_here, line_beside, line_lacks, line_ends, line_below, numbers_fit, IsLineSoFar}
use Rattle.language.proofs.Placing.{value_fits}
use Rattle.cert_check.proofs.siblings.line_on.Goals as goal
use Rattle.cert_check.proofs.siblings.line_on.Goals.{then-w-v, else-w-v+in_ok-y}

pub loop-w-init : goal.loop-w-init
loop-w-init c = line_begins c.args.lang.now.value_count c.args.v c.args.e.now (scope_at c.args.lang.now c.args.s)

pub returns-clause-line : goal.returns-clause-line
returns-clause-line c =
    let l = c.args.lang.now in
    let past = subst (λ (ws : List ℕ). length ws ≤ c.loop-w.w-index) c.scope-scope.ensures.is c.loop-w-test.false in
    line_ends l.value_count c.args.v c.args.e.now (scope_at l c.args.s) c.loop-w.w-index c.loop-w.place c.loop-w.stride c.loop-w.invariant past

pub returns-clause-below : goal.returns-clause-below
returns-clause-below c = λ x low.
    let l = c.args.lang.now in
    let past = subst (λ (ws : List ℕ). length ws ≤ c.loop-w.w-index) c.scope-scope.ensures.is c.loop-w-test.false in
    line_below l.value_count c.args.v c.args.e.now (scope_at l c.args.s) c.loop-w.w-index c.loop-w.place c.loop-w.stride c.loop-w.invariant past x low

pub overflow_mul-place : goal.overflow_mul-place
overflow_mul-place c =
    let l = c.args.lang.now in
    let low = subst (λ (ws : List ℕ). c.loop-w.w-index < length ws) c.scope-scope.ensures.is c.loop-w-test.true in
    let count = c.from-d.ensures ∙ c.d.ensures.is in
    let some = c.d.ensures.lawful.some_value in
    let fit = numbers_fit l c.args.s c.args.v c.args.e.now c.loop-w.w-index c.loop-w.place c.loop-w.stride c.from-d.result 0 0 c.d.ensures.lawful c.requires.scope c.loop-w.invariant low count (omega (arith, some)) refl in
    let placed = fit.0 in
    omega (arith, placed)

pub overflow_mul-stride : goal.overflow_mul-stride
overflow_mul-stride c =
    let l = c.args.lang.now in
    let low = subst (λ (ws : List ℕ). c.loop-w.w-index < length ws) c.scope-scope.ensures.is c.loop-w-test.true in
    let count = c.from-d.ensures ∙ c.d.ensures.is in
    let some = c.d.ensures.lawful.some_value in
    let fit = numbers_fit l c.args.s c.args.v c.args.e.now c.loop-w.w-index c.loop-w.place c.loop-w.stride c.from-d.result 0 0 c.d.ensures.lawful c.requires.scope c.loop-w.invariant low count (omega (arith, some)) refl in
    let moved = fit.1 in
    omega (arith, moved)

pub overflow_add-stride : goal.overflow_add-stride
overflow_add-stride c =
    let l = c.args.lang.now in
    let low = subst (λ (ws : List ℕ). c.loop-w.w-index < length ws) c.scope-scope.ensures.is c.loop-w-test.true in
    let count = c.from-d.ensures ∙ c.d.ensures.is in
    let some = c.d.ensures.lawful.some_value in
    let fit = numbers_fit l c.args.s c.args.v c.args.e.now c.loop-w.w-index c.loop-w.place c.loop-w.stride c.from-d.result 0 0 c.d.ensures.lawful c.requires.scope c.loop-w.invariant low count (omega (arith, some)) refl in
    let moved = fit.1 in
    omega (arith, moved)

pub overflow_mul-place-else-w-v : goal.overflow_mul-place-else-w-v
overflow_mul-place-else-w-v c =
    let l = c.args.lang.now in
    let low = subst (λ (ws : List ℕ). c.loop-w.w-index < length ws) c.scope-scope.ensures.is c.loop-w-test.true in
    let count = c.from-d.ensures ∙ c.d.ensures.is in
    let some = c.d.ensures.lawful.some_value in
    let fit = numbers_fit l c.args.s c.args.v c.args.e.now c.loop-w.w-index c.loop-w.place c.loop-w.stride c.from-d.result 0 0 c.d.ensures.lawful c.requires.scope c.loop-w.invariant low count (omega (arith, some)) refl in
    let placed = fit.0 in
    omega (arith, placed)

pub overflow_add-place : goal.overflow_add-place
overflow_add-place c =
    let l = c.args.lang.now in
    let low = subst (λ (ws : List ℕ). c.loop-w.w-index < length ws) c.scope-scope.ensures.is c.loop-w-test.true in
    let count = c.from-d.ensures ∙ c.d.ensures.is in
    let small = value_fits l.value_count (get_or c.scope-scope.result.now c.loop-w.w-index 0) c.in_ok-y.y c.args.e.now c.get.result c.requires.question.values_fit c.get.ensures c.in_ok-y.was in
    let fit = numbers_fit l c.args.s c.args.v c.args.e.now c.loop-w.w-index c.loop-w.place c.loop-w.stride c.from-d.result c.in_ok-y.y c.from.result c.d.ensures.lawful c.requires.scope c.loop-w.invariant low count small c.from.ensures in
    let placed = fit.0 in
    omega (arith, placed)

pub overflow_mul-stride-else-w-v : goal.overflow_mul-stride-else-w-v
overflow_mul-stride-else-w-v c =
    let l = c.args.lang.now in
    let low = subst (λ (ws : List ℕ). c.loop-w.w-index < length ws) c.scope-scope.ensures.is c.loop-w-test.true in
    let count = c.from-d.ensures ∙ c.d.ensures.is in
    let some = c.d.ensures.lawful.some_value in
    let fit = numbers_fit l c.args.s c.args.v c.args.e.now c.loop-w.w-index c.loop-w.place c.loop-w.stride c.from-d.result 0 0 c.d.ensures.lawful c.requires.scope c.loop-w.invariant low count (omega (arith, some)) refl in
    let moved = fit.1 in
    omega (arith, moved)

pub loop-w-preserved : goal.loop-w-preserved
loop-w-preserved c =
    let l = c.args.lang.now in
    let low = subst (λ (ws : List ℕ). c.loop-w.w-index < length ws) c.scope-scope.ensures.is c.loop-w-test.true in
    let count = c.from-d.ensures ∙ c.d.ensures.is in
    let same : get_or c.scope-scope.result.now c.loop-w.w-index 0 ≡ get_or (scope_at l c.args.s) c.loop-w.w-index 0 = ap (λ (ws : List ℕ). get_or ws c.loop-w.w-index 0) c.scope-scope.ensures.is in
    let size = c.requires.question.size in
    let known = c.requires.known in
    elim c.if-w-v.branch [
      | then-w-v w ↦
          subst (λ p. IsLineSoFar l.value_count c.args.v c.args.e.now (scope_at l c.args.s) (c.loop-w.w-index + 1) p c.if-w-v.stride) (sym w.place-is)
          (subst (λ t. IsLineSoFar l.value_count c.args.v c.args.e.now (scope_at l c.args.s) (c.loop-w.w-index + 1) (c.loop-w.place * c.from-d.result) t) (sym w.stride-is)
          (line_here l.value_count c.args.v c.args.e.now (scope_at l c.args.s) c.loop-w.w-index c.loop-w.place c.loop-w.stride c.from-d.result c.loop-w.invariant low c.d.ensures.lawful.some_value count
          (sym same ∙ w.if-w-v.true) (omega (arith, size, known))))
      | else-w-v+in_ok-y w ↦
          let small = value_fits l.value_count (get_or c.scope-scope.result.now c.loop-w.w-index 0) w.in_ok-y.y c.args.e.now w.get.result c.requires.question.values_fit w.get.ensures w.in_ok-y.was in
          subst (λ p. IsLineSoFar l.value_count c.args.v c.args.e.now (scope_at l c.args.s) (c.loop-w.w-index + 1) p c.if-w-v.stride) (sym w.place-is)
          (subst (λ t. IsLineSoFar l.value_count c.args.v c.args.e.now (scope_at l c.args.s) (c.loop-w.w-index + 1) (c.loop-w.place * c.from-d.result + w.from.result) t) (sym w.stride-is)
          (line_beside l.value_count c.args.v c.args.e.now (scope_at l c.args.s) c.loop-w.w-index c.loop-w.place c.loop-w.stride c.from-d.result c.loop-w.invariant low c.d.ensures.lawful.some_value count
          w.in_ok-y.y w.from.result w.get.result (λ is. w.if-w-v.false (same ∙ is)) (w.get.ensures ∙ ap (value_of c.args.e.now) same) w.in_ok-y.was small w.from.ensures))
    ]
