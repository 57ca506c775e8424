use Rattle.propagators.proofs.Prelude.{sym, length-ones_of}
use Rattle.propagators.proofs.values.count.Goals as goal

pub returns-clause-is : goal.returns-clause-is
returns-clause-is c = sym (length-ones_of c.args.values c.ranges.values.fits)
