use Rattle.bias_store.proofs.Prelude.{◌<◌, ap, arith, bit_and, bit_not, w64, one_shl, bit_at-trailing_zeros}
use Rattle.bias_store.proofs.masks.take_least.Goals as goal

pub returns : goal.returns
returns c =
    let some = c.requires in
    let positive : 0 < c.args.word = omega arith in
    let low = bit_at-trailing_zeros w64 c.args.word positive c.ranges.word.fits in
    record { within = low.0; one = low.1; before = low.2; without = ap (λ m. bit_and c.args.word (bit_not w64 m)) (one_shl _ 64 low.0) }
