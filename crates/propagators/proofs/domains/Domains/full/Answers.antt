use Rattle.propagators.proofs.Prelude.{◌∙◌, ◌&&◌, sym, subst, arith, nat_le, IsFamilyOf}
use Rattle.propagators.proofs.Filled.{fill_begin, fill_next, values_mask, full_masks, full_seen, full_family}
use Rattle.propagators.proofs.domains.Domains.full.Goals as goal

pub loop-v-init : goal.loop-v-init
loop-v-init c = fill_begin c.args.lang.now

pub loop-v-preserved : goal.loop-v-preserved
loop-v-preserved c =
    let few = c.n-n.ensures.lawful.few_variables in
    let n = c.n-n.ensures.is in
    let range = c.range-first.ensures in
    fill_next c.args.lang.now c.loop-v.v c.values_between.result c.loop-v.sets (let low = c.loop-v-test.true in omega arith) c.values_between.type_inv
    (values_mask c.args.lang.now c.loop-v.v c.values_between.result c.values_between.type_inv c.n-n.ensures.lawful.few_values (let last = range.last in let known = range.known in omega arith)
    (λ x. c.values_between.ensures x ∙ (λ i. nat_le (range.first i) x && nat_le x (range.last i))))
    c.loop-v.invariant

pub invariant_of-result : goal.invariant_of-result
invariant_of-result c = full_masks c.args.lang.now c.loop-v.sets c.loop-v.v c.n-n.result (let few = c.n-n.ensures.lawful.few_variables in omega arith) c.loop-v.invariant (omega arith)

pub returns-clause-is : goal.returns-clause-is
returns-clause-is c = full_seen c.args.lang.now c.loop-v.sets c.loop-v.v c.n-n.result (let few = c.n-n.ensures.lawful.few_variables in omega arith) c.loop-v.invariant (omega arith) c.n-n.ensures.is

pub returns-clause-family : goal.returns-clause-family
returns-clause-family c = subst (IsFamilyOf c.args.lang.now) (sym (returns-clause-is c)) (full_family c.args.lang.now)
