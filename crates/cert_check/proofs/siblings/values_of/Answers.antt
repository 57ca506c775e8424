use Rattle.cert_check.proofs.Prelude.{◌<◌, ◌≤◌, arith, range_of}
use Rattle.cert_check.proofs.Values.{run_more}
use Rattle.cert_check.proofs.siblings.values_of.Goals as goal

pub loop-x-init : goal.loop-x-init
loop-x-init c = λ x from below. absurd (let first = c.range-first.ensures.first in omega (arith, first, from, below))

pub loop-x-preserved : goal.loop-x-preserved
loop-x-preserved c =
    let known = c.range-first.ensures.known in
    let few = c.requires.lawful.few_values in
    run_more c.loop-x.values (range_of c.args.lang.now c.args.v).first c.loop-x.x (omega arith) c.loop-x.invariant

pub returns : goal.returns
returns c = λ x at.
    let to = at.to in
    let end = c.loop-x-test.false in
    let last = c.range-first.ensures.last in
    c.loop-x.invariant x at.from (omega arith)
