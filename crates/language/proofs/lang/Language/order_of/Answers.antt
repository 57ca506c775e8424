use Rattle.std.proofs.lemmas.List.{append-nil}
use Rattle.arrayvec.specs.ArrayVec.{ArrayVec, array_vec_len}
use Rattle.language.proofs.Prelude.{◌≡◌, ℕ, ◌+◌, List, ◌∷◌, [], ◌++◌, length, take, not, cond, Bool, true, false, subst, sym, ◌∙◌, ap, arith, take_all, length-range_with_len, filter, numbers, has, variable_count, order_of, IsOrder}
use Rattle.language.proofs.Orders.{orders_are_known, next_variable}
use Rattle.language.proofs.lang.Language.order_of.Goals as goal
use Rattle.language.proofs.lang.Language.order_of.Goals.{then-not-has, else-not-has}

abbrev Order : Type 0
Order = ArrayVec ℕ

pub loop-v-2-init : goal.loop-v-2-init
loop-v-2-init c =
    let same : c.scope_set-members.result ≡ c.scope-scope.result.now = c.scope_set-members.ensures ∙ sym c.scope-scope.ensures.is in
    record {
      put = subst (λ (ms : List ℕ). c.loop-v.order.items ≡ ms ++ filter (λ w. not (has ms w)) (take 0 (numbers c.n-v-end.result))) (sym same)
          (c.loop-v.invariant.put ∙ take_all c.loop-v.v-index c.scope-scope.result.now (let end = c.loop-v-test.false in omega arith) ∙ sym (append-nil c.scope-scope.result.now));
      few = (let long = ap length same in let few = c.loop-v.invariant.few in omega arith);
    }

pub loop-v-2-preserved : goal.loop-v-2-preserved
loop-v-2-preserved c =
    let scope : List ℕ = c.scope_set-members.result in
    let next : (passes : Bool) → passes ≡ not c.has.result → (ys : List ℕ) → ys ≡ cond passes (c.loop-v-2.order.items ++ c.loop-v-2.v ∷ []) c.loop-v-2.order.items →
    ys ≡ scope ++ filter (λ w. not (has scope w)) (take (c.loop-v-2.v + 1) (numbers c.n-v-end.result)) =
    (λ passes is ys put. next_variable scope c.n-v-end.result c.loop-v-2.v passes c.loop-v-2.order.items ys c.loop-v-2-test.true (is ∙ ap not c.has.ensures) put c.loop-v-2.invariant.put) in
    let few = c.loop-v-2.invariant.few in
    elim c.if-not-has.branch [
      | then-not-has w ↦
          let put : c.if-not-has.order.items ≡ c.loop-v-2.order.items ++ c.loop-v-2.v ∷ [] = ap (λ (o : Order). o.items) w.order-is ∙ w.push-then-not-has.ensures.items in
          let long : array_vec_len c.if-not-has.order ≡ array_vec_len c.loop-v-2.order + 1 = ap (λ (o : Order). array_vec_len o) w.order-is ∙ w.push-then-not-has.ensures.len in
          record {
            put = next true (sym (ap not w.if-not-has.true)) c.if-not-has.order.items put;
            few = omega arith;
          }
      | else-not-has w ↦
          let long : array_vec_len c.if-not-has.order ≡ array_vec_len c.loop-v-2.order = ap (λ (o : Order). array_vec_len o) w.order-is in
          record {
            put = next false (sym (ap not w.if-not-has.false)) c.if-not-has.order.items (ap (λ (o : Order). o.items) w.order-is);
            few = omega arith;
          }
    ]

order_is : (c : goal.After-loop-v-2) → c.loop-v-2.order.items ≡ order_of c.args.self.now c.args.c
order_is c =
    c.loop-v-2.invariant.put
    ∙ ap (λ vs. c.scope_set-members.result ++ filter (λ w. not (has c.scope_set-members.result w)) vs) (take_all c.loop-v-2.v (numbers c.n-v-end.result) (let long = length-range_with_len 0 c.n-v-end.result in omega arith))
    ∙ ap (λ n. c.scope_set-members.result ++ filter (λ w. not (has c.scope_set-members.result w)) (numbers n)) c.n-v-end.ensures.is
    ∙ ap (λ (scope : List ℕ). scope ++ filter (λ w. not (has scope w)) (numbers (length c.args.self.now.names))) c.scope_set-members.ensures

pub returns-clause-is : goal.returns-clause-is
returns-clause-is c = order_is c

pub returns-clause-order : goal.returns-clause-order
returns-clause-order c = subst (IsOrder (variable_count c.args.self.now)) (sym (order_is c)) (orders_are_known c.args.self.now c.args.c c.n-v-end.ensures.lawful c.requires)
