use Rattle.bias_store.proofs.Prelude.{◌≡◌, ◌+◌, ℕ, List, sym, ◌∙◌, subst, arith, length-take-le, Accepts, AreAdded}
use Rattle.bias_store.proofs.RowMasks.{column_accepts}
use Rattle.bias_store.proofs.Tabled.{added_more}
use Rattle.bias_store.proofs.tables.add_row.Goals as goal

pub loop-y-preserved : goal.loop-y-preserved
loop-y-preserved c = λ before is.
    let l = c.args.lang.now in
    let s = c.args.s in
    let few = c.relations_on.ensures.few in
    let same = c.from-relations.ensures in
    let long = c.rows_at-rows.ensures.long in
    let right = c.column.ensures ∙ column_accepts l s c.args.place c.from-relations.result c.loop-y.y c.rows_at-rows.result (c.from-relations.ensures ∙ c.relations_on.ensures.is) (length-take-le c.from-relations.result c.rows_at-rows.result (omega arith)) c.rows_at-rows.ensures.rows (let low = c.loop-y-test.true in let values = c.d-y-end.ensures.is in omega arith) in
    let next : c.args.place + c.loop-y.y + 1 ≡ c.args.place + (c.loop-y.y + 1) = omega arith in
    subst (AreAdded (Accepts l s) before c.push.new.self.items) next
    (subst (λ (items : List ℕ). AreAdded (Accepts l s) before items (c.args.place + c.loop-y.y + 1)) (sym c.in_ok-push.ensures.items)
    (added_more (Accepts l s) before c.loop-y.masks.items (c.args.place + c.loop-y.y) c.column.result (c.loop-y.invariant before is) right))
