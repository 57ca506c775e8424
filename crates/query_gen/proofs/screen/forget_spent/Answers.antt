use Rattle.query_gen.proofs.Prelude.{◌<◌, length, get_or, set, ◌∙◌, ap, arith, get_or_default, Mark, Blank, without_spent}
use Rattle.std.proofs.lemmas.List.Edits.{map_over_more}
use Rattle.query_gen.proofs.screen.forget_spent.Goals as goal

pub loop-mark-preserved : goal.loop-mark-preserved
loop-mark-preserved c =
    let x : Mark = get_or c.loop-mark.marks c.loop-mark.mark-index Blank in
    let low : c.loop-mark.mark-index < length c.loop-mark.marks = (let long = c.loop-mark.auto.marks in omega arith) in
    ap (set c.loop-mark.marks c.loop-mark.mark-index) (c.without_spent.ensures ∙ ap without_spent (get_or_default c.loop-mark.marks c.loop-mark.mark-index _ Blank low))
    ∙ map_over_more without_spent c.args.marks.now c.loop-mark.marks c.loop-mark.mark-index x (omega arith) c.loop-mark.invariant (get_or_default c.loop-mark.marks c.loop-mark.mark-index Blank x low)
