-- Digits and the numbers that they write.
use Rattle.net_cnf.proofs.Prelude.{◌≡◌, ℕ, ◌+◌, ◌-◌, ◌*◌, ◌<◌, ◌≤◌, ◌^◌, ◌&&◌, not, Bool, true, false, cond, List, [], ◌∷◌, length, get_or, Some, None, refl, sym, ◌∙◌, ap, arith, eqb, ltb, ◌⊎◌, inl, inr, nat_le, nat_lt, nat_eq, list_all, digit_value, is_digit, decimal, AllDigits, digits_value, cases_lt, cond_both, and_parts, and_from, leb-true, lt-ltb, le-leb, ltb-true, ltb-false, lt-leb, eqb-false, not-true, not_from_false, ne_eqb, cond_some, decimal_is_IsNumeral, decimal-digits_value, first_decimal, is_number, number_in}
use Rattle.std.proofs.lemmas.Str.Parse.{IsNumeralModel, numerals_by_value, tells_digits}
use Rattle.shared_lemmas.proofs.Read.{value_grows, all_digits}

not_first : (b : ℕ) → 48 ≤ b → (b ≡ 48 → ⊥) → 48 < b
not_first b low apart = go (cases_lt 48 b)
  where
    go : (48 < b) ⊎ (b ≤ 48) → 48 < b
    go (inl above) = above
    go (inr below) = absurd (apart (omega arith))

-- 0 alone is the digit 0
digit_some : (b : ℕ) → (b ≡ 48 → ⊥) → 0 < digit_value b
digit_some b apart =
    cond_both (ltb b 48) 36 _ Above (λ _. omega arith) (λ low.
    cond_both (ltb b 58) (b - 48) _ Above (λ _. omega (arith, not_first b (ltb-false b 48 low) apart)) (λ past.
    cond_both (ltb b 65) 36 _ Above (λ _. omega arith) (λ great.
    cond_both (ltb b 91) (b - 55) _ Above (λ _. omega (arith, ltb-false b 65 great)) (λ between.
    cond_both (ltb b 97) 36 _ Above (λ _. omega arith) (λ small.
    cond_both (ltb b 123) (b - 87) 36 Above (λ _. omega (arith, ltb-false b 97 small)) (λ _. omega arith))))))
  where
    Above : ℕ → Type 0
    Above v = 0 < v

-- a number that is read is above 0
pub number_some : (digits : List ℕ) → is_number digits ≡ true → 0 < digits_value 10 digits
number_some [] h = absurd cc
number_some (b ∷ digits) h =
    let parts = and_parts (nat_lt 0 (length (b ∷ digits))) (not (nat_eq b 48) && list_all (λ x. is_digit x 10) (b ∷ digits)) h in
    let inner = and_parts (not (nat_eq b 48)) (list_all (λ x. is_digit x 10) (b ∷ digits)) parts.1 in
    let above = digit_some b (eqb-false b 48 (not-true (eqb b 48) inner.0)) in
    let more = value_grows (0 * 10 + digit_value b) digits in
    omega (arith, more, above)

pub number_is : (most : ℕ) (digits : List ℕ) (n : ℕ) → number_in most digits ≡ Some n → (is_number digits ≡ true) × (digits_value 10 digits ≡ n) × (n ≤ most)
number_is most digits n h =
    let c = cond_some (is_number digits && nat_le (digits_value 10 digits) most) (digits_value 10 digits) n h in
    let parts = and_parts (is_number digits) (nat_le (digits_value 10 digits) most) c.0 in
    let low = leb-true (digits_value 10 digits) most parts.1 in
    (parts.0, c.1, (let same = c.1 in omega (arith, low, same)))

pub number_found : (most : ℕ) (digits : List ℕ) (n : ℕ) → is_number digits ≡ true → digits_value 10 digits ≡ n → n ≤ most → number_in most digits ≡ Some n
number_found most digits n number is low =
    ap (λ b. cond b (Some (digits_value 10 digits)) None) (and_from (is_number digits) (nat_le (digits_value 10 digits) most) number (le-leb (digits_value 10 digits) most (omega (arith, low, is))))
    ∙ ap Some is

pub number_past : (most : ℕ) (digits : List ℕ) → most < digits_value 10 digits → number_in most digits ≡ None
number_past most digits past = go (is_number digits)
  where
    go : (b : Bool) → cond (b && nat_le (digits_value 10 digits) most) (Some (digits_value 10 digits)) None ≡ None
    go false = refl
    go true = ap (λ b. cond b (Some (digits_value 10 digits)) None) (lt-leb (digits_value 10 digits) most past)

-- ---- decimal texts

-- the decimal text of a number above 0 is read as the number
pub decimal_read : (most n : ℕ) → 0 < n → n ≤ most → n < 2 ^ 64 → number_in most (decimal n) ≡ Some n
decimal_read most n some low small =
    let numeral = decimal_is_IsNumeral n small in
    let first : 48 < get_or (decimal n) 0 0 = first_decimal n some small in
    let apart : eqb (get_or (decimal n) 0 0) 48 ≡ false = ne_eqb (get_or (decimal n) 0 0) 48 (λ same. absurd (omega (arith, first, same))) in
    number_found most (decimal n) n
    (and_from _ _ (lt-ltb 0 (length (decimal n)) numeral.0.0) (and_from _ _ (not_from_false _ apart) (all_digits (decimal n) numeral.0.1)))
    numeral.1 low

digits_all : (digits : List ℕ) → list_all (λ b. is_digit b 10) digits ≡ true → AllDigits 10 digits
digits_all [] h = tt
digits_all (b ∷ digits) h =
    let parts = and_parts (is_digit b 10) (list_all (λ x. is_digit x 10) digits) h in
    (ltb-true (digit_value b) 10 parts.0, digits_all digits parts.1)

own : IsNumeralModel (AllDigits 10) (digits_value 10)
own = numerals_by_value (AllDigits 10) tells_digits

-- and a text that is read as a number is its decimal text
pub read_decimal : (most n : ℕ) (digits : List ℕ) → number_in most digits ≡ Some n → n < 2 ^ 64 → digits ≡ decimal n
read_decimal most n digits h small =
    let read = number_is most digits n h in
    let parts = and_parts (nat_lt 0 (length digits)) (not (nat_eq (get_or digits 0 0) 48) && list_all (λ b. is_digit b 10) digits) read.0 in
    let inner = and_parts (not (nat_eq (get_or digits 0 0) 48)) (list_all (λ b. is_digit b 10) digits) parts.1 in
    let apart = eqb-false (get_or digits 0 0) 48 (not-true (eqb (get_or digits 0 0) 48) inner.0) in
    let same = read.1 in
    sym (decimal-digits_value own digits (digits_all digits inner.1) (ltb-true 0 (length digits) parts.0) (λ zero. absurd (apart zero)) (omega (arith, same, small)))
    ∙ ap decimal read.1
