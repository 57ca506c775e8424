use Rattle.propagators.proofs.Prelude.{◌<◌, ◌∙◌, ap, subst, sym, ℕ, bit_and, bit_not, w64, one_shl, has, ones_of}
use Rattle.propagators.proofs.Ones.{has-without, less-without}
use Rattle.propagators.proofs.values.without_value.Goals as goal

pub returns-clause-has : goal.returns-clause-has
returns-clause-has c = λ y. ap (λ m. has (ones_of (bit_and c.args.values (bit_not w64 m))) y) (one_shl c.args.x 64 c.requires.low) ∙ has-without c.args.values c.args.x y c.ranges.values.fits c.requires.low

pub returns-clause-less : goal.returns-clause-less
returns-clause-less c = subst (λ (m : ℕ). bit_and c.args.values (bit_not w64 m) < c.args.values) (sym (one_shl c.args.x 64 c.requires.low)) (less-without c.args.values c.args.x c.ranges.values.fits c.requires.low c.requires.there)
