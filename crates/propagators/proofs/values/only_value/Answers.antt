use Rattle.propagators.proofs.Prelude.{◌∙◌, ap, ◌&&◌, ◌==◌, bit_and, one_shl, is_one, is_one-pow, ones_of, ones_of-passing, is_one-and}
use Rattle.propagators.proofs.values.only_value.Goals as goal

pub returns : goal.returns
returns c =
    ap (λ m. ones_of (bit_and c.args.values m)) (one_shl c.args.x 64 c.requires)
    ∙ ones_of-passing _ c.args.values (λ y. c.args.x == y) (λ r low. is_one-and c.args.values _ r ∙ ap (λ b. is_one c.args.values r && b) (is_one-pow c.args.x r))
