use Rattle.language.proofs.Prelude.{arith, ◌≡◌, ◌<◌, ◌∙◌, ◌+◌, ◌∷◌, ◌++◌, if◌then◌else◌, ℕ, ℤ, pos, negsuc, [], List, Result, Ok, Err, w64, of_z, to_z, OnOk, ap, sym, subst, unsigned_abs, FitsUnsignedBits, decimal, signed_decimal, to_z-of_z}
use Rattle.std.specs.Result.{is_ok}
use Rattle.std.proofs.lemmas.Fmt.{decimal_digit}
use Rattle.language.proofs.texts.add_number.Goals as goal

-- a digit is written as itself
digit_written : (number : ℤ) (digit : ℕ) → FitsUnsignedBits 8 number → digit ≡ unsigned_abs number → digit < 10 → (48 + digit) ∷ [] ≡ signed_decimal number
digit_written (pos number) digit _ is small = sym (decimal_digit digit small) ∙ ap decimal is
digit_written (negsuc _) _ fits _ _ = absurd fits

pushed_behind : {T E : Type 0} (r : Result T E) (old bytes new wanted : List ℕ) → new ≡ (if is_ok r then old ++ bytes else old) → bytes ≡ wanted → OnOk r (new ≡ old ++ wanted)
pushed_behind (Ok _) old bytes new wanted is same = is ∙ ap (λ those. old ++ those) same
pushed_behind (Err _) _ _ _ _ _ _ = tt

-- src/texts.rt:18:1
pub returns-in-Ok : goal.returns-in-Ok
returns-in-Ok c =
    let is : to_z w64 (of_z w64 c.args.number) ≡ c.args.number = to_z-of_z w64 c.args.number c.ranges.number in
    let digit : FitsUnsignedBits 8 (to_z w64 (of_z w64 c.args.number)) × (c.in-Ok.digit ≡ unsigned_abs (to_z w64 (of_z w64 c.args.number))) = c.in-Ok.ensures in
    pushed_behind c.push.result _ _ _ _ c.push.ensures.bytes
    (c.push.ensures.ascii (omega (arith, c.from.ensures, c.if-digit-lt10.true))
    ∙ ap (λ byte. byte ∷ []) c.from.ensures
    ∙ digit_written c.args.number c.in-Ok.digit (subst (FitsUnsignedBits 8) is digit.0) (digit.1 ∙ ap unsigned_abs is) c.if-digit-lt10.true)
