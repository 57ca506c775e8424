use Rattle.propagators.proofs.Prelude.{◌∙◌, ap, sym, ◌&&◌, ◌||◌, ◌^◌, ◌==◌, bit_or, one_shl, pow_below, has, ones_of}
use Rattle.propagators.proofs.Ones.{has-either, has-one, none_in, some_in, or_none}
use Rattle.propagators.proofs.values.with_value.Goals as goal

pub returns-then-others-eq0 : goal.returns-then-others-eq0
returns-then-others-eq0 c = λ y. sym (or_none _ _ (ap (λ b. b && (c.args.x == y)) (none_in c.args.others c.if-others-eq0.true)))

pub returns-else-others-eq0 : goal.returns-else-others-eq0
returns-else-others-eq0 c = λ y.
    ap (λ m. has (ones_of (bit_or c.args.values m)) y) (one_shl c.args.x 64 c.requires)
    ∙ has-either c.args.values (2 ^ c.args.x) y c.ranges.values.fits (pow_below c.args.x 64 c.requires)
    ∙ ap (λ b. has (ones_of c.args.values) y || b) (has-one c.args.x y c.requires ∙ sym (ap (λ b. b && (c.args.x == y)) (some_in c.args.others c.ranges.others.fits c.if-others-eq0.false)))
