use Rattle.propagators.proofs.Prelude.{◌∙◌, ap, sym, ◌&&◌, ◌==◌, bit_at, has, ones_of, is_wanted}
use Rattle.propagators.proofs.Ones.{has-and, has-and_not}
use Rattle.propagators.proofs.values.passing.Goals as goal

pub returns-then-holding : goal.returns-then-holding
returns-then-holding c = λ y. has-and c.args.values c.args.row y c.ranges.values.fits ∙ ap (λ h. has (ones_of c.args.values) y && is_wanted h (bit_at c.args.row y == 1)) (sym c.if-holding.true)

pub returns-else-holding : goal.returns-else-holding
returns-else-holding c = λ y. has-and_not c.args.values c.args.row y c.ranges.values.fits c.ranges.row.fits ∙ ap (λ h. has (ones_of c.args.values) y && is_wanted h (bit_at c.args.row y == 1)) (sym c.if-holding.false)
