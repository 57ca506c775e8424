use Rattle.net_cnf.proofs.Prelude.{◌≡◌, ◌+◌, false, Some, sym, ◌∙◌, ap, arith, and_from, Signs}
use Rattle.net_cnf.proofs.Marking.{both_at, both_nowhere}
use Rattle.net_cnf.proofs.reading.twice.Goals as goal

pub returns-then-signs-place-2 : goal.returns-then-signs-place-2
returns-then-signs-place-2 c = λ literals marked.
    let none : Signs = record { positive = false; negative = false } in
    let next : c.loop-place.place + 1 ≡ 1 + c.loop-place.place = omega arith in
    ap Some next
    ∙ sym (both_at literals c.args.signs.now c.loop-place.place none marked c.loop-place-test.true (λ j low. c.loop-place.invariant j none low) (and_from _ _ c.if-signs-place.true c.if-signs-place-2.true))

pub returns : goal.returns
returns c = λ literals marked.
    let none : Signs = record { positive = false; negative = false } in
    let past = c.loop-place-test.false in
    sym (both_nowhere literals c.args.signs.now none marked (λ j low. c.loop-place.invariant j none (omega (arith, low, past))))
