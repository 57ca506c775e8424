use Rattle.par_screen.proofs.Prelude.{sym, ◌∙◌, ap, arith, Place, Query, query_then}
use Rattle.std.specs.Prelude.{slice_index_or}
use Rattle.par_screen.proofs.Eighths.{says, says_all, says_more}
use Rattle.par_screen.proofs.forked.answer_of.Goals as goal

pub loop-part-preserved : goal.loop-part-preserved
loop-part-preserved c =
    let place : Place = slice_index_or c.args.places.now c.loop-part.part c.index-places-part.result in
    c.then-answer.ensures ∙ ap (λ (q : Query). query_then q place.answer) c.loop-part.invariant
    ∙ sym (says_more c.args.lang.now c.args.net.now.list c.args.kept.now.members c.args.budget c.loop-part.part place.marks.items place.answer
    (c.requires.searched c.loop-part.part c.index-places-part.result c.loop-part-test.true))

pub returns : goal.returns
returns c =
    c.loop-part.invariant
    ∙ ap (says c.args.lang.now c.args.net.now.list c.args.kept.now.members c.args.budget) (let past = c.loop-part-test.false in let within = c.loop-part.auto.part-end in omega arith)
    ∙ says_all c.args.lang.now c.args.net.now.list c.args.kept.now.members c.args.budget
