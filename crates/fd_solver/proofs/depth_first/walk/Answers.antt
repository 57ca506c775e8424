use Rattle.fd_solver.proofs.Prelude.{◌≡◌, ◌+◌, ◌<◌, ℕ, length, [], ◌∷◌, Some, None, replicate, sym, ap, ◌∙◌, subst, arith, length-append, List, slice_index_or, slice_set, variable_count, Found, IsArranged}
use Rattle.fd_solver.proofs.Turning.{work_left, work_down, work_next, work_up}
use Rattle.fd_solver.proofs.Walking.{begins, size_is, spent, found, down, next_value, over, up, moved, work_passed}
use Rattle.fd_solver.proofs.Rows.{arranged_from, arranged_up}
use Rattle.fd_solver.proofs.depth_first.walk.Goals as goal
use Rattle.shared_lemmas.proofs.Lists.{empty_list}

pub loop-x-init : goal.loop-x-init
loop-x-init c =
    let blank : c.blank-e.result ≡ replicate (variable_count c.args.cons.now.lang.now) None = c.blank-e.ensures ∙ ap (λ k. replicate k None) c.requires.variables in
    rw (blank, c.new-stack.ensures) (begins c.args.cons.now.lang.now c.args.cons.now.list.now c.args.cons.now.against c.args.order.now c.requires.order c.args.budget c.d-d.ensures.lawful c.requires.alive c.requires.budget, c.requires.ready)

pub returns-then-left-eq0 : goal.returns-then-left-eq0
returns-then-left-eq0 c = sym (spent c.args.cons.now.lang.now c.args.cons.now.list.now c.args.cons.now.against c.args.order.now c.requires.order c.args.budget c.loop-x.e c.loop-x.stack c.next_value-x.result c.loop-x.left (moved c.args.cons.now.lang.now c.args.cons.now.list.now c.args.cons.now.against c.args.order.now c.requires.order c.args.budget c.loop-x.e c.loop-x.stack c.loop-x.x c.loop-x.left c.loop-x.invariant.0 c.next_value-x.result c.next_value-x.ensures.from c.next_value-x.ensures.within c.next_value-x.ensures.dead) (let d = c.d-d.ensures.is in let low = c.if-x-d.true in omega arith) (sym c.enter.ensures.is ∙ c.if-enter.true) c.if-left-eq0.true)

pub set-requires : goal.set-requires
set-requires c =
    let size = size_is c.args.cons.now.lang.now c.args.cons.now.list.now c.args.cons.now.against c.args.order.now c.requires.order c.args.budget c.loop-x.e c.loop-x.stack c.next_value-x.result c.loop-x.left (moved c.args.cons.now.lang.now c.args.cons.now.list.now c.args.cons.now.against c.args.order.now c.requires.order c.args.budget c.loop-x.e c.loop-x.stack c.loop-x.x c.loop-x.left c.loop-x.invariant.0 c.next_value-x.result c.next_value-x.ensures.from c.next_value-x.ensures.within c.next_value-x.ensures.dead) in
    let short = c.loop-x.invariant.0.short in
    let known = c.requires.order.known c.len.result 0 (let size = c.requires.order.size in let at = c.len.ensures in omega arith) in
    omega arith

pub returns-then-len-n : goal.returns-then-len-n
returns-then-len-n c =
    ap Found (c.set.ensures ∙ ap (λ k. slice_set c.loop-x.e (slice_index_or c.args.order.now k 0) (Some c.next_value-x.result)) c.len.ensures)
    ∙ sym (found c.args.cons.now.lang.now c.args.cons.now.list.now c.args.cons.now.against c.args.order.now c.requires.order c.args.budget c.loop-x.e c.loop-x.stack c.next_value-x.result c.loop-x.left (moved c.args.cons.now.lang.now c.args.cons.now.list.now c.args.cons.now.against c.args.order.now c.requires.order c.args.budget c.loop-x.e c.loop-x.stack c.loop-x.x c.loop-x.left c.loop-x.invariant.0 c.next_value-x.result c.next_value-x.ensures.from c.next_value-x.ensures.within c.next_value-x.ensures.dead) (let d = c.d-d.ensures.is in let low = c.if-x-d.true in omega arith) (sym c.enter.ensures.is ∙ c.if-enter.true) (let some = c.if-left-eq0.false in omega arith) (let long = length-append c.loop-x.stack (c.next_value-x.result ∷ []) in let pushed = ap length c.push.ensures in let short = c.loop-x.invariant.0.short in let full = c.if-len-n.true in let count = c.len-then-enter.ensures in let vars = c.requires.variables in omega arith))

pub loop-x-smaller-then-enter : goal.loop-x-smaller-then-enter
loop-x-smaller-then-enter c = rw c.push.ensures (let passed = work_passed c.args.cons.now.lang.now.value_count (variable_count c.args.cons.now.lang.now) c.loop-x.stack c.loop-x.x c.next_value-x.result c.loop-x.invariant.0.short c.next_value-x.ensures.from c.next_value-x.ensures.within in let less = (work_down c.args.cons.now.lang.now.value_count (variable_count c.args.cons.now.lang.now) c.loop-x.stack c.next_value-x.result c.loop-x.invariant.0.short (let d = c.d-d.ensures.is in let low = c.if-x-d.true in omega arith)) in omega arith)

pub loop-x-preserved-then-enter : goal.loop-x-preserved-then-enter
loop-x-preserved-then-enter c = (
  rw ((c.set.ensures ∙ ap (λ k. slice_set c.loop-x.e (slice_index_or c.args.order.now k 0) (Some c.next_value-x.result)) c.len.ensures), c.push.ensures)
      (down c.args.cons.now.lang.now c.args.cons.now.list.now c.args.cons.now.against c.args.order.now c.requires.order c.args.budget c.loop-x.e c.loop-x.stack c.next_value-x.result c.loop-x.left (moved c.args.cons.now.lang.now c.args.cons.now.list.now c.args.cons.now.against c.args.order.now c.requires.order c.args.budget c.loop-x.e c.loop-x.stack c.loop-x.x c.loop-x.left c.loop-x.invariant.0 c.next_value-x.result c.next_value-x.ensures.from c.next_value-x.ensures.within c.next_value-x.ensures.dead) (let d = c.d-d.ensures.is in let low = c.if-x-d.true in omega arith) (sym c.enter.ensures.is ∙ c.if-enter.true) (let some = c.if-left-eq0.false in omega arith)
      (let long = length-append c.loop-x.stack (c.next_value-x.result ∷ []) in let pushed = ap length c.push.ensures in let short = c.loop-x.invariant.0.short in let other = c.if-len-n.false in let count = c.len-then-enter.ensures in let vars = c.requires.variables in omega arith)),
  subst (λ (p : List ℕ). IsArranged c.args.cons.now.lang.now c.args.cons.now.list.now c.args.cons.now.against c.args.order.now p 0 c.enter.new.self) (sym c.push.ensures) (c.enter.ensures.deeper c.if-enter.true),
)

pub loop-x-smaller-else-enter : goal.loop-x-smaller-else-enter
loop-x-smaller-else-enter c = let passed = work_passed c.args.cons.now.lang.now.value_count (variable_count c.args.cons.now.lang.now) c.loop-x.stack c.loop-x.x c.next_value-x.result c.loop-x.invariant.0.short c.next_value-x.ensures.from c.next_value-x.ensures.within in let less = work_next c.args.cons.now.lang.now.value_count (variable_count c.args.cons.now.lang.now) c.loop-x.stack c.next_value-x.result c.loop-x.invariant.0.short (let d = c.d-d.ensures.is in let low = c.if-x-d.true in omega arith) in omega arith

pub loop-x-preserved-else-enter : goal.loop-x-preserved-else-enter
loop-x-preserved-else-enter c = (next_value c.args.cons.now.lang.now c.args.cons.now.list.now c.args.cons.now.against c.args.order.now c.requires.order c.args.budget c.loop-x.e c.loop-x.stack c.next_value-x.result c.loop-x.left (moved c.args.cons.now.lang.now c.args.cons.now.list.now c.args.cons.now.against c.args.order.now c.requires.order c.args.budget c.loop-x.e c.loop-x.stack c.loop-x.x c.loop-x.left c.loop-x.invariant.0 c.next_value-x.result c.next_value-x.ensures.from c.next_value-x.ensures.within c.next_value-x.ensures.dead) (let d = c.d-d.ensures.is in let low = c.if-x-d.true in omega arith) (sym c.enter.ensures.is ∙ c.if-enter.false), c.enter.ensures.ready)

pub returns-then-len-eq0 : goal.returns-then-len-eq0
returns-then-len-eq0 c =
    sym (over c.args.cons.now.lang.now c.args.cons.now.list.now c.args.cons.now.against c.args.order.now c.requires.order c.args.budget c.loop-x.e c.loop-x.stack c.next_value-x.result c.loop-x.left (moved c.args.cons.now.lang.now c.args.cons.now.list.now c.args.cons.now.against c.args.order.now c.requires.order c.args.budget c.loop-x.e c.loop-x.stack c.loop-x.x c.loop-x.left c.loop-x.invariant.0 c.next_value-x.result c.next_value-x.ensures.from c.next_value-x.ensures.within c.next_value-x.ensures.dead) (let next = c.next_value-x.ensures.within in let d = c.d-d.ensures.is in let past = c.if-x-d.false in omega arith) (empty_list c.loop-x.stack (sym c.len-else-x-d.ensures ∙ c.if-len-eq0.true)))

pub overflow_add-x-else-x-d : goal.overflow_add-x-else-x-d
overflow_add-x-else-x-d c =
    let on = up c.args.cons.now.lang.now c.args.cons.now.list.now c.args.cons.now.against c.args.order.now c.requires.order c.args.budget c.loop-x.e c.loop-x.stack c.next_value-x.result c.loop-x.left (moved c.args.cons.now.lang.now c.args.cons.now.list.now c.args.cons.now.against c.args.order.now c.requires.order c.args.budget c.loop-x.e c.loop-x.stack c.loop-x.x c.loop-x.left c.loop-x.invariant.0 c.next_value-x.result c.next_value-x.ensures.from c.next_value-x.ensures.within c.next_value-x.ensures.dead) c.pop-x.new.self c.pop-x.result (let next = c.next_value-x.ensures.within in let d = c.d-d.ensures.is in let past = c.if-x-d.false in omega arith) c.pop-x.ensures in
    let next = on.next in
    let few = c.d-d.ensures.lawful.few_values in
    omega arith

pub clear-requires : goal.clear-requires
clear-requires c =
    let size = size_is c.args.cons.now.lang.now c.args.cons.now.list.now c.args.cons.now.against c.args.order.now c.requires.order c.args.budget c.loop-x.e c.loop-x.stack c.next_value-x.result c.loop-x.left (moved c.args.cons.now.lang.now c.args.cons.now.list.now c.args.cons.now.against c.args.order.now c.requires.order c.args.budget c.loop-x.e c.loop-x.stack c.loop-x.x c.loop-x.left c.loop-x.invariant.0 c.next_value-x.result c.next_value-x.ensures.from c.next_value-x.ensures.within c.next_value-x.ensures.dead) in
    let long = length-append c.pop-x.new.self (c.pop-x.result ∷ []) in
    let popped = ap length c.pop-x.ensures in
    let short = c.loop-x.invariant.0.short in
    let known = c.requires.order.known c.len-else-x-d-2.result 0 (let size = c.requires.order.size in let at = c.len-else-x-d-2.ensures in omega arith) in
    omega arith

pub loop-x-smaller : goal.loop-x-smaller
loop-x-smaller c =
    let long = length-append c.pop-x.new.self (c.pop-x.result ∷ []) in
    let popped = ap length c.pop-x.ensures in
    let short = c.loop-x.invariant.0.short in
    let last : c.next_value-x.result ≡ c.args.cons.now.lang.now.value_count = (let next = c.next_value-x.ensures.within in let d = c.d-d.ensures.is in let past = c.if-x-d.false in omega arith) in
    let passed = work_passed c.args.cons.now.lang.now.value_count (variable_count c.args.cons.now.lang.now) c.loop-x.stack c.loop-x.x c.next_value-x.result c.loop-x.invariant.0.short c.next_value-x.ensures.from c.next_value-x.ensures.within in
    let less : work_left c.args.cons.now.lang.now.value_count (variable_count c.args.cons.now.lang.now) c.pop-x.new.self (c.pop-x.result + 1) < work_left c.args.cons.now.lang.now.value_count (variable_count c.args.cons.now.lang.now) c.loop-x.stack c.next_value-x.result = rw (c.pop-x.ensures, last) (work_up c.args.cons.now.lang.now.value_count (variable_count c.args.cons.now.lang.now) c.pop-x.new.self c.pop-x.result (omega arith)) in
    omega arith

pub loop-x-preserved : goal.loop-x-preserved
loop-x-preserved c =
    let cleared = c.clear.ensures ∙ ap (λ k. slice_set c.loop-x.e (slice_index_or c.args.order.now k 0) None) c.len-else-x-d-2.ensures in (
      rw cleared (up c.args.cons.now.lang.now c.args.cons.now.list.now c.args.cons.now.against c.args.order.now c.requires.order c.args.budget c.loop-x.e c.loop-x.stack c.next_value-x.result c.loop-x.left (moved c.args.cons.now.lang.now c.args.cons.now.list.now c.args.cons.now.against c.args.order.now c.requires.order c.args.budget c.loop-x.e c.loop-x.stack c.loop-x.x c.loop-x.left c.loop-x.invariant.0 c.next_value-x.result c.next_value-x.ensures.from c.next_value-x.ensures.within c.next_value-x.ensures.dead) c.pop-x.new.self c.pop-x.result (let next = c.next_value-x.ensures.within in let d = c.d-d.ensures.is in let past = c.if-x-d.false in omega arith) c.pop-x.ensures),
      arranged_up c.args.cons.now.lang.now c.args.cons.now.list.now c.args.cons.now.against c.args.order.now c.pop-x.new.self c.pop-x.result c.loop-x.x c.loop-x.work
          (subst (λ (p : List ℕ). IsArranged c.args.cons.now.lang.now c.args.cons.now.list.now c.args.cons.now.against c.args.order.now p c.loop-x.x c.loop-x.work) c.pop-x.ensures c.loop-x.invariant.1),
    )

pub enter-requires-clause-ready : goal.enter-requires-clause-ready
enter-requires-clause-ready c = arranged_from c.args.cons.now.lang.now c.args.cons.now.list.now c.args.cons.now.against c.args.order.now c.loop-x.stack c.loop-x.x c.next_value-x.result c.loop-x.work c.next_value-x.ensures.from c.loop-x.invariant.1
