use Rattle.net_cnf.proofs.Prelude.{arith}
use Rattle.net_cnf.proofs.Numbers.{number-is}
use Rattle.net_cnf.proofs.lines.number_of.Goals as goal

pub returns : goal.returns
returns c =
    let range = c.range-first.ensures in
    let known = range.known in
    let last = range.last in
    let to = c.requires.to in
    let first = range.first in
    let before = c.booleans_before.ensures.is in
    let from = c.from.ensures in
    let is = number-is c.args.lang.now c.args.v c.args.x (record { variable = c.requires.variable; from = c.requires.from; to = to; fits = omega (arith, known, last, to) }) in
    omega (arith, is, first, before, from)
