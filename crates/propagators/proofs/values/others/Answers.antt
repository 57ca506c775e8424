use Rattle.propagators.proofs.Prelude.{◌∙◌, ap, bit_and, bit_not, w64, one_shl, has, ones_of}
use Rattle.propagators.proofs.Ones.{has-without}
use Rattle.propagators.proofs.values.others.Goals as goal

pub returns : goal.returns
returns c = λ y. ap (λ m. has (ones_of (bit_and c.args.values (bit_not w64 m))) y) (one_shl c.args.x 64 c.requires) ∙ has-without c.args.values c.args.x y c.ranges.values.fits c.requires
