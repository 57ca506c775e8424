use Rattle.propagators.proofs.Prelude.{◌<◌, ◌∙◌, ap, arith, ◌==◌, w64, bit_at-trailing_zeros, has-ones_of}
use Rattle.propagators.proofs.Ones.{none_lower}
use Rattle.propagators.proofs.values.least_value.Goals as goal

pub returns-clause-there : goal.returns-clause-there
returns-clause-there c =
    let some = c.requires in
    let positive : 0 < c.args.values = omega arith in
    let low = bit_at-trailing_zeros w64 c.args.values positive c.ranges.values.fits in
    has-ones_of c.args.values _ low.0 ∙ ap (λ b. b == 1) low.1

pub returns-clause-least : goal.returns-clause-least
returns-clause-least c =
    let some = c.requires in
    let positive : 0 < c.args.values = omega arith in
    let low = bit_at-trailing_zeros w64 c.args.values positive c.ranges.values.fits in
    λ x there. none_lower c.args.values _ x c.ranges.values.fits low.2 there
