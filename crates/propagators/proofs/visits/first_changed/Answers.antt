use Rattle.propagators.proofs.Prelude.{◌≡◌, ◌∙◌, ℕ, List, [], ap, subst, sym, arith, slice_index_or, get_or_read, numbers, HasMore, variable_count, conditions, AreSettled}
use Rattle.propagators.proofs.Conditions.{all_settled, arcs_over}
use Rattle.propagators.proofs.Lazy.{settled_first, more_next}
use Rattle.propagators.proofs.visits.first_changed.Goals as goal

pub returns-then-count-len : goal.returns-then-count-len
returns-then-count-len c = record {
  family = c.requires.doms.family;
  full = c.requires.doms.full;
  settled = subst (λ (xs : List ℕ). AreSettled (conditions c.args.cons.now) xs c.args.doms.now) (sym (c.all.ensures ∙ ap numbers c.requires.variables))
      (all_settled (conditions c.args.cons.now) (variable_count c.args.cons.now.lang.now) c.args.doms.now (arcs_over c.args.cons.now.lang.now c.args.cons.now.list.now c.args.cons.now.against c.requires.lawful c.requires.constraints));
}

pub loop-v-preserved : goal.loop-v-preserved
loop-v-preserved c =
    let few = c.requires.lawful.few_variables in
    let n = c.requires.variables in
    let low = c.loop-v-test.true in
    let wide = c.args.plan.now.limits_long in
    let at = c.from.ensures in
    let limit : c.index.result.now ≡ slice_index_or c.args.plan.now.limits.items c.loop-v.v 0 =
    get_or_read c.args.plan.now.limits.items c.from.result c.index.result.now (omega arith) c.index.ensures 0 ∙ ap (λ (v : ℕ). slice_index_or c.args.plan.now.limits.items v 0) c.from.ensures in
    more_next c.args.doms.now c.args.plan.now.limits.items c.loop-v.changed c.with_few-changed.result c.loop-v.v (omega arith) c.with_few-changed.ensures.grows
    (λ none. subst (λ (most : ℕ). HasMore most (slice_index_or c.args.doms.now c.loop-v.v [])) limit (c.with_few-changed.ensures.more none)) c.loop-v.invariant

pub returns : goal.returns
returns c = record {
  family = c.requires.doms.family;
  full = c.requires.doms.full;
  settled = settled_first c.args.cons.now.lang.now (variable_count c.args.cons.now.lang.now) (conditions c.args.cons.now) c.args.plan.now.briefs.items c.args.plan.now.limits.items c.loop-v.changed c.args.doms.now
      (let few = c.requires.lawful.few_values in omega arith) (arcs_over c.args.cons.now.lang.now c.args.cons.now.list.now c.args.cons.now.against c.requires.lawful c.requires.constraints)
      (let count = c.count.ensures in let room = c.len.ensures in let low = c.if-count-len.false in omega arith) c.requires.plan.briefs c.requires.plan.limits c.requires.doms.family
      (λ u low none. c.loop-v.invariant u (let n = c.requires.variables in let end = c.loop-v-test.false in omega arith) none);
}
