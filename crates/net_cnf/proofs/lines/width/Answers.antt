use Rattle.net_cnf.proofs.Prelude.{arith}
use Rattle.net_cnf.proofs.Numbers.{length-values}
use Rattle.net_cnf.proofs.lines.width.Goals as goal

pub returns-clause-is : goal.returns-clause-is
returns-clause-is c =
    let range = c.range-first.ensures in
    let size = length-values c.args.lang.now c.args.v in
    let from = c.from.ensures in
    omega (arith, range.first, range.last, range.some, range.known, size, from)
