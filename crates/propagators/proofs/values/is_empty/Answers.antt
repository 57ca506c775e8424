use Rattle.propagators.proofs.Ones.{is_zero}
use Rattle.propagators.proofs.values.is_empty.Goals as goal

pub returns : goal.returns
returns c = is_zero c.args.values c.ranges.values.fits
