use Rattle.query_gen.proofs.Prelude.{◌+◌, ◌<◌, length, ◌∙◌, ap₂, arith, get_or_default, Blank, mark_taken}
use Rattle.query_gen.proofs.Parts.{taken_none, taken_more}
use Rattle.query_gen.proofs.screen.take_bytes.Goals as goal

pub loop-i-init : goal.loop-i-init
loop-i-init c = taken_none c.args.bytes.now c.args.first c.args.marks.now

pub loop-i-preserved : goal.loop-i-preserved
loop-i-preserved c =
    let before = c.loop-i-test.true in
    let within = c.requires.within in
    let room = c.requires.room in
    let long = c.loop-i.auto.marks in
    let low : c.args.first + c.loop-i.i < length c.loop-i.marks = omega arith in
    let inside : c.loop-i.i < length c.args.bytes.now = omega arith in
    taken_more c.args.bytes.now c.args.first c.loop-i.i c.args.marks.now c.loop-i.marks c.taking.result low
    (c.taking.ensures ∙ ap₂ mark_taken (get_or_default c.loop-i.marks (c.args.first + c.loop-i.i) _ Blank low) (get_or_default c.args.bytes.now c.loop-i.i _ 0 inside)) c.loop-i.invariant
