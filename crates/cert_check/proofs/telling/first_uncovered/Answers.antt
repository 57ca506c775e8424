use Rattle.cert_check.proofs.Prelude.{◌<◌, ◌≤◌, length, sym, ◌∙◌, arith, candidates, is_uncovered}
use Rattle.cert_check.proofs.Finding.{candidate_read, fails_more, found_read, none_through}
use Rattle.cert_check.proofs.telling.first_uncovered.Goals as goal

pub loop-number-preserved : goal.loop-number-preserved
loop-number-preserved c = λ t told.
    let low : c.loop-number.number < length (candidates c.args.lang.now) = (let e = c.candidates-number-end.ensures.is in let h = c.loop-number-test.true in omega (arith, e, h)) in
    fails_more (is_uncovered c.args.lang.now c.args.net.now t c.args.items.now) (candidates c.args.lang.now) c.loop-number.number c.candidate.result low
    (candidate_read c.args.lang.now c.candidate.result c.loop-number.number c.candidate.ensures.candidate c.candidate.ensures.number)
    (sym (c.is_uncovered.ensures t told) ∙ c.if-is_uncovered.false) (c.loop-number.invariant t told)

pub returns-then-is_uncovered : goal.returns-then-is_uncovered
returns-then-is_uncovered c = λ t told.
    let low : c.loop-number.number < length (candidates c.args.lang.now) = (let e = c.candidates-number-end.ensures.is in let h = c.loop-number-test.true in omega (arith, e, h)) in
    sym (found_read (is_uncovered c.args.lang.now c.args.net.now t c.args.items.now) (candidates c.args.lang.now) c.loop-number.number c.candidate.result low
    (candidate_read c.args.lang.now c.candidate.result c.loop-number.number c.candidate.ensures.candidate c.candidate.ensures.number)
    (sym (c.is_uncovered.ensures t told) ∙ c.if-is_uncovered.true) (c.loop-number.invariant t told))

pub returns : goal.returns
returns c = λ t told.
    let all : length (candidates c.args.lang.now) ≤ c.loop-number.number = (let e = c.candidates-number-end.ensures.is in let h = c.loop-number-test.false in omega (arith, e, h)) in
    sym (none_through (is_uncovered c.args.lang.now c.args.net.now t c.args.items.now) (candidates c.args.lang.now) c.loop-number.number all (c.loop-number.invariant t told))
