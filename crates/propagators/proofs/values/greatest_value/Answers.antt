use Rattle.propagators.proofs.Prelude.{◌≡◌, ◌-◌, ◌∙◌, ap, arith, count_leading_zeros, has, ones_of}
use Rattle.propagators.proofs.Ones.{highest}
use Rattle.propagators.proofs.values.greatest_value.Goals as goal

pub returns-clause-there : goal.returns-clause-there
returns-clause-there c =
    let some = c.requires in
    let top = highest c.args.values (omega arith) c.ranges.values.fits in
    let whole = top.1 in
    let place : 63 - count_leading_zeros 64 c.args.values ≡ top.0 = omega arith in
    ap (has (ones_of c.args.values)) place ∙ top.2

pub returns-clause-greatest : goal.returns-clause-greatest
returns-clause-greatest c = λ x there. (
    let some = c.requires in
    let top = highest c.args.values (omega arith) c.ranges.values.fits in
    let whole = top.1 in
    let high = top.3 x there in
    omega arith)
