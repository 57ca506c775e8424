use Rattle.propagators.proofs.Prelude.{◌∙◌, ap, ◌||◌, ◌^◌, bit_or, one_shl, pow_below, has, ones_of}
use Rattle.propagators.proofs.Ones.{has-either, has-one}
use Rattle.propagators.proofs.values.add_value.Goals as goal

pub returns : goal.returns
returns c = λ y.
    ap (λ m. has (ones_of (bit_or c.args.values m)) y) (one_shl c.args.x 64 c.requires)
    ∙ has-either c.args.values (2 ^ c.args.x) y c.ranges.values.fits (pow_below c.args.x 64 c.requires)
    ∙ ap (λ b. has (ones_of c.args.values) y || b) (has-one c.args.x y c.requires)
