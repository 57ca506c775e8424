use Rattle.find_c.proofs.Prelude.{ℕ, List, Option, Some, None, replicate, length, take, get_or, sym, ◌∙◌, ap, subst, arith, slice_set, take_all, assigned, variable_count, scope_at, IsQuestion, TellingRun, split_is_question}
use Rattle.find_c.proofs.Lawful.{scope_is}
use Rattle.find_c.proofs.Replies.{run_tuple}
use Rattle.find_c.proofs.Filling.{assigned_blank, length-assigned, assigned_more}
use Rattle.find_c.proofs.run.RelRun.wants.Goals as goal

pub loop-i-init : goal.loop-i-init
loop-i-init c = c.blank-question.ensures ∙ ap (λ (n : ℕ). replicate n None) c.n.ensures.is ∙ assigned_blank (variable_count c.args.lang.now) (scope_at c.args.lang.now c.args.self.now.scope)

pub bounds-values-i : goal.bounds-values-i
bounds-values-i c =
    let values = ap length (c.values-values.ensures ∙ ap (λ (run : TellingRun). run.tuple) c.self.view_is) in
    let scope = ap length (c.scope-v-items.ensures.is ∙ ap (λ (run : TellingRun). scope_at c.args.lang.now run.scope) c.self.view_is) in
    let long = (run_tuple c.args.lang.now c.n.ensures.lawful c.args.self.now c.requires).long in
    omega (arith, values, scope, long)

pub set-requires : goal.set-requires
set-requires c =
    let known = c.scope-v-items.ensures.scope.known c.loop-i.i 0 c.loop-i-test.true in
    let size = ap length c.loop-i.invariant ∙ length-assigned (variable_count c.args.lang.now) (scope_at c.args.lang.now c.args.self.now.scope) (take c.loop-i.i c.args.self.now.tuple) in
    omega (arith, known, size)

pub loop-i-preserved : goal.loop-i-preserved
loop-i-preserved c =
    let values = c.values-values.ensures ∙ ap (λ (run : TellingRun). run.tuple) c.self.view_is in
    let scope = c.scope-v-items.ensures.is ∙ ap (λ (run : TellingRun). scope_at c.args.lang.now run.scope) c.self.view_is in
    let long = (run_tuple c.args.lang.now c.n.ensures.lawful c.args.self.now c.requires).long in
    c.set.ensures
    ∙ ap (λ (q : List (Option ℕ)). slice_set q (get_or c.scope-v-items.result.now c.loop-i.i 0) (Some (get_or c.values-values.result.now c.loop-i.i 0))) c.loop-i.invariant
    ∙ assigned_more (variable_count c.args.lang.now) (scope_at c.args.lang.now c.args.self.now.scope) c.args.self.now.tuple (scope_is c.args.lang.now c.n.ensures.lawful c.args.self.now.scope c.requires.scope) long
    c.loop-i.i _ _ (omega (arith, ap length scope)) (ap (λ xs. get_or xs c.loop-i.i 0) scope) (ap (λ xs. get_or xs c.loop-i.i 0) values)

pub returns-clause-is : goal.returns-clause-is
returns-clause-is c =
    let scope = ap length (c.scope-v-items.ensures.is ∙ ap (λ (run : TellingRun). scope_at c.args.lang.now run.scope) c.self.view_is) in
    let long = (run_tuple c.args.lang.now c.n.ensures.lawful c.args.self.now c.requires).long in
    c.loop-i.invariant ∙ ap (assigned (variable_count c.args.lang.now) (scope_at c.args.lang.now c.args.self.now.scope)) (take_all c.loop-i.i c.args.self.now.tuple (omega (arith, scope, long)))

pub returns-clause-fits : goal.returns-clause-fits
returns-clause-fits c =
    let l = c.args.lang.now in
    let run = c.args.self.now in
    let scope = ap length (c.scope-v-items.ensures.is ∙ ap (λ (run : TellingRun). scope_at c.args.lang.now run.scope) c.self.view_is) in
    let tuple = run_tuple l c.n.ensures.lawful run c.requires in
    subst (IsQuestion l) (sym (c.loop-i.invariant ∙ ap (assigned (variable_count l) (scope_at l run.scope)) (take_all c.loop-i.i run.tuple (omega (arith, scope, tuple.long)))))
    (split_is_question l c.n.ensures.lawful run.scope c.requires.scope run.choices c.requires.choices run.tuple tuple.long tuple.values c.requires.tuple)
