use Rattle.language.proofs.Prelude.{◌+◌, ◌*◌, false, ◌∙◌, arith, slice_index_or, go_together}
use Rattle.language.proofs.ByNames.{no_mask, mask_more}
use Rattle.language.proofs.masks.column.Goals as goal

pub loop-x-init : goal.loop-x-init
loop-x-init c = no_mask (λ x. go_together c.args.table.now.value_count c.args.table.now.truth x c.args.y)

pub loop-x-preserved : goal.loop-x-preserved
loop-x-preserved c =
    let few = c.value_count-d.ensures.lawful.small in
    let d = c.value_count-d.ensures.is in
    mask_more (λ x. go_together c.args.table.now.value_count c.args.table.now.truth x c.args.y) c.loop-x.x c.loop-x.column c.from-in-loop-x-3.result c.at-held.result (omega arith) c.from-in-loop-x-3.ensures
    (c.at-held.ensures ∙ (λ i. slice_index_or c.args.table.now.truth (c.from.ensures i * (c.from-in-loop-x.ensures ∙ d) i + c.from-in-loop-x-2.ensures i) false)) c.loop-x.invariant
