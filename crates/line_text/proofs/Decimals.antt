-- Decimal texts of numbers are read as the numbers.
use Rattle.line_text.proofs.Prelude.{◌≡◌, ℕ, ◌<◌, ◌≤◌, ◌^◌, true, false, cond, List, [], ◌∷◌, length, get_or, Some, None, ◌∙◌, ap, arith, ◌⊎◌, inl, inr, nat_le, nat_lt, ◌==◌, list_all, is_digit, option_and_then, AllDigits, digits_value, and_from, cases_lt, le-leb, lt-ltb, ne_eqb, not_from_false, or_left, All-nil, begins_well, decimal_in, decimal_below, number_from}
use Rattle.std.specs.Int.{IsInRange}
use Rattle.std.specs.Fmt.{decimal}
use Rattle.std.proofs.lemmas.Fmt.{decimal_digit, decimal_is_IsNumeral, first_decimal}
use Rattle.std.proofs.lemmas.Str.Parse.{digit_from_value}
use Rattle.line_text.proofs.Avoiding.{Lacks, lacks_first}
use Rattle.shared_lemmas.proofs.Read.{all_digits}

-- a byte that is no digit
abbrev pub IsNoDigit : ℕ → Type 0
IsNoDigit byte = (byte < 48) ⊎ (57 < byte)

digit_differs : (b byte : ℕ) → IsInRange 48 57 b → IsNoDigit byte → (b == byte) ≡ false
digit_differs b byte is (inl low) = ne_eqb b byte (λ same. absurd (let from = is.0 in omega (arith, from, low, same)))
digit_differs b byte is (inr high) = ne_eqb b byte (λ same. absurd (let to = is.1 in omega (arith, to, high, same)))

digits_lack : (byte : ℕ) (digits : List ℕ) → IsNoDigit byte → AllDigits 10 digits → Lacks byte digits
digits_lack byte [] apart h = All-nil (λ b. (b == byte) ≡ false)
digits_lack byte (b ∷ digits) apart h = lacks_first byte b digits (digit_differs b byte (digit_from_value b h.0) apart) (digits_lack byte digits apart h.1)

-- it has digits alone
pub decimal_lacks : (byte n : ℕ) → IsNoDigit byte → n < 2 ^ 64 → Lacks byte (decimal n)
decimal_lacks byte n apart small = digits_lack byte (decimal n) apart (decimal_is_IsNumeral n small).0.1

begins : (n : ℕ) → n < 2 ^ 64 → begins_well (decimal n) ≡ true
begins n small = go (cases_lt 0 n)
  where
    go : (0 < n) ⊎ (n ≤ 0) → begins_well (decimal n) ≡ true
    go (inr none) = ap (λ m. begins_well (decimal m)) (let e : n ≡ 0 = omega arith in e) ∙ ap begins_well (decimal_digit 0 (omega arith))
    go (inl some) =
        let first : 48 < get_or (decimal n) 0 0 = first_decimal n some small in
        and_from _ _ (lt-ltb 0 (length (decimal n)) (decimal_is_IsNumeral n small).0.0)
        (or_left _ _ (not_from_false _ (ne_eqb (get_or (decimal n) 0 0) 48 (λ same. absurd (omega (arith, first, same))))))

pub decimal_read : (n : ℕ) → n < 2 ^ 64 → decimal_in (decimal n) ≡ Some n
decimal_read n small =
    let numeral = decimal_is_IsNumeral n small in
    ap (λ b. cond b (Some (digits_value 10 (decimal n))) None) (and_from (begins_well (decimal n)) (list_all (λ b. is_digit b 10) (decimal n)) (begins n small) (all_digits (decimal n) numeral.0.1))
    ∙ ap Some numeral.1

pub below_read : (bound n : ℕ) → n < bound → n < 2 ^ 64 → decimal_below bound (decimal n) ≡ Some n
below_read bound n low small =
    ap (option_and_then (λ (m : ℕ). cond (nat_lt m bound) (Some m) None)) (decimal_read n small)
    ∙ ap (λ b. cond b (Some n) None) (lt-ltb n bound low)

pub from_read : (least bound n : ℕ) → least ≤ n → n < bound → n < 2 ^ 64 → number_from least bound (decimal n) ≡ Some n
from_read least bound n from low small =
    ap (option_and_then (λ (m : ℕ). cond (nat_le least m) (Some m) None)) (below_read bound n low small)
    ∙ ap (λ b. cond b (Some n) None) (le-leb least n from)
