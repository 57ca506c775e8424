use Rattle.language.proofs.Prelude.{◌∙◌, ap, ◌==◌, bit_xor, bit_at, shr_and_one, bit_at_xor, bit_at-lt}
use Rattle.language.proofs.PairMasking.{differ_is}
use Rattle.language.proofs.masks.differ_at.Goals as goal

pub returns : goal.returns
returns c =
    ap (λ n. n == 1) (shr_and_one (bit_xor c.args.one c.args.other) c.args.x ∙ bit_at_xor c.args.one c.args.other c.args.x)
    ∙ differ_is (bit_at c.args.one c.args.x) (bit_at c.args.other c.args.x) (bit_at-lt c.args.one c.args.x) (bit_at-lt c.args.other c.args.x)
