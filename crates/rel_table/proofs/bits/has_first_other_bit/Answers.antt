use Rattle.rel_table.proofs.Prelude.{ap, nat_eq, bit_xor, trailing_zeros, w64, shr_and_one}
use Rattle.rel_table.proofs.AboveLemmas.{first_other_low, first_other_is}
use Rattle.rel_table.proofs.bits.has_first_other_bit.Goals as goal

pub overflow_shr-result : goal.overflow_shr-result
overflow_shr-result c = first_other_low c.args.x c.args.y c.ranges.x.fits c.ranges.y.fits c.requires

pub returns : goal.returns
returns c = first_other_is c.args.x c.args.y _ c.ranges.x.fits c.ranges.y.fits c.requires (ap (λ b. nat_eq b 1) (shr_and_one c.args.x (trailing_zeros w64 (bit_xor c.args.x c.args.y))))
