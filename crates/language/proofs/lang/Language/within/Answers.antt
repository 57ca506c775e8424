use Rattle.language.proofs.Prelude.{◌≡◌, [], get_or, ◌∙◌, ap, arith, Relation, widened, Language, scope_at, relations_on, is_part}
use Rattle.language.proofs.ByNames.{no_mask, mask_more}
use Rattle.language.proofs.lang.Language.within.Goals as goal

pub loop-r-init : goal.loop-r-init
loop-r-init c =
    let l : Language = c.args.self.now in
    no_mask (λ k. is_part (get_or (relations_on l c.args.s) k []) (widened l.ranges l.value_count (scope_at l c.args.s) c.args.table.now.truth))

pub loop-r-preserved : goal.loop-r-preserved
loop-r-preserved c =
    let l : Language = c.args.self.now in
    let other : Relation = widened l.ranges l.value_count (scope_at l c.args.s) c.args.table.now.truth in
    let d : c.table_on.result.now.value_count ≡ l.value_count = c.table_on.ensures.values in
    let is : c.is_part_on.result ≡ is_part (get_or (relations_on l c.args.s) c.loop-r.r []) other =
    c.is_part_on.ensures
    ∙ (λ i. is_part (widened (c.own_ranges-ranges.ensures.is i) (d i) (c.scope-scope.ensures.is i) c.table_on.result.now.truth) (widened (c.own_ranges-ranges.ensures.is i) (d i) (c.scope-scope.ensures.is i) c.args.table.now.truth))
    ∙ ap (λ r. is_part r other) c.table_on.ensures.widened in
    mask_more (λ k. is_part (get_or (relations_on l c.args.s) k []) other) c.loop-r.r c.loop-r.relations c.from.result c.is_part_on.result
    (let few = c.relations_on-r-end.ensures.few in omega arith) c.from.ensures is c.loop-r.invariant

pub returns : goal.returns
returns c = λ k low. c.loop-r.invariant.low k (let is = c.relations_on-r-end.ensures.is in omega arith)
