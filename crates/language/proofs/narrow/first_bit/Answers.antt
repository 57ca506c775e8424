use Rattle.language.proofs.Prelude.{◌≡◌, ◌==◌, ◌<◌, ◌^◌, ap, ◌∙◌, arith, bit_at, bit_xor, bit_at-zero, shr_and_one, w64}
use Rattle.std.proofs.Common.{bit_and, ◌/◌}
use Rattle.std.specs.Int.{trailing_zeros}
use Rattle.std.proofs.lemmas.Nat.Bits.{bit_at-trailing_zeros}
use Rattle.std.proofs.lemmas.Nat.{and_le_r}
use Rattle.language.proofs.PairOrders.{same_bit, other_bit}
use Rattle.language.proofs.narrow.first_bit.Goals as goal

pub returns-then-differ-eq0 : goal.returns-then-differ-eq0
returns-then-differ-eq0 c = record {
  none = λ e y inside. same_bit c.args.one c.args.other c.args.among y (ap (λ n. bit_at n y) c.if-differ-eq0.true ∙ bit_at-zero y) inside;
  some = λ on e. absurd (let no : ⊥ = cc in no);
}

pub returns : goal.returns
returns c =
    let differ = bit_and (bit_xor c.args.one c.args.other) c.args.among in
    let some : 0 < differ = (let other = c.if-differ-eq0.false in omega arith) in
    let found = bit_at-trailing_zeros w64 differ some (let fits = c.ranges.among.fits in let less = and_le_r (bit_xor c.args.one c.args.other) c.args.among in omega arith) in
    let at = trailing_zeros w64 differ in
    let here = other_bit c.args.one c.args.other c.args.among at found.1 in
    record {
      none = λ e. absurd (let no : ⊥ = cc in no);
      some = λ on e. record {
        at = at;
        inside = here.0;
        before = λ y less inside. same_bit c.args.one c.args.other c.args.among y (found.2 y less) inside;
        differ = here.1;
        is = (let same = e in let on_is : on ≡ (bit_and (c.args.one / 2 ^ at) 1 == 1) = cc in on_is) ∙ ap (λ n. n == 1) (shr_and_one c.args.one at);
      };
    }
