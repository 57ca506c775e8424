use Rattle.cert_check.proofs.Prelude.{◌≡◌, ◌<◌, ◌^◌, ◌*◌, ◌%◌, length, ap, arith, ◌==◌}
use Rattle.std.specs.Int.{bit_not, trailing_zeros, w64}
use Rattle.std.specs.Prelude.{bit_and}
use Rattle.std.proofs.lemmas.Nat.{one_shl}
use Rattle.std.proofs.lemmas.Nat.Bits.{bit_at-trailing_zeros}
use Rattle.assign.specs.Sets.{ones_of}
use Rattle.assign.proofs.Ones.{ones_of-first_and_others}
use Rattle.cert_check.proofs.siblings.split_first.Goals as goal

pub returns : goal.returns
returns c =
    let some = c.requires in
    let positive : 0 < c.args.values = omega arith in
    let low = bit_at-trailing_zeros w64 c.args.values positive c.ranges.values.fits in
    let shifted = one_shl (trailing_zeros w64 c.args.values) 64 low.0 in
    let all = ap length (ones_of-first_and_others c.args.values _ low.0 low.1 low.2) in
    let left = ap (λ m. length (ones_of (bit_and c.args.values (bit_not w64 m)))) shifted in
    record {
      small = low.0;
      one = ap (λ b. b == 1) low.1;
      others = ap (λ m. bit_and c.args.values (bit_not w64 m)) shifted;
      fewer = omega (arith, all, left);
    }
