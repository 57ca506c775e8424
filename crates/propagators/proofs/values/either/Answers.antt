use Rattle.propagators.proofs.Ones.{has-either}
use Rattle.propagators.proofs.values.either.Goals as goal

pub returns : goal.returns
returns c = λ y. has-either c.args.a c.args.b y c.ranges.a.fits c.ranges.b.fits
