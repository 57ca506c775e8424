-- Numbers of any length, where those above 32 bits are taken for one.
use Rattle.line_text.proofs.Prelude.{◌≡◌, ℕ, ◌<◌, ◌≤◌, true, cond, List, [], length, drop, Some, None, sym, ◌∙◌, ap, arith, ◌⊎◌, inl, inr, list_all, option_map, is_digit, digits_value, digits_value_after, cases_lt, lt-ltb, le-ltb, and_from, drop_all, begins_well, is_decimal, capped, decimal_in}
use Rattle.shared_lemmas.proofs.Read.{value_grows}

pub capped_low : (n : ℕ) → n < 4294967296 → capped n ≡ n
capped_low n low = ap (λ b. cond b n 4294967295) (lt-ltb n 4294967296 low)

pub capped_high : (n : ℕ) → 4294967296 ≤ n → capped n ≡ 4294967295
capped_high n high = ap (λ b. cond b n 4294967295) (le-ltb n 4294967296 high)

pub capped_most : (n : ℕ) → 4294967295 ≤ n → capped n ≡ 4294967295
capped_most n most = go (cases_lt n 4294967296)
  where
    go : (n < 4294967296) ⊎ (4294967296 ≤ n) → capped n ≡ 4294967295
    go (inl low) = capped_low n low ∙ (let e : n ≡ 4294967295 = omega arith in e)
    go (inr high) = capped_high n high

-- further digits may be read behind the capped number
pub capped_after : (n : ℕ) (digits : List ℕ) → capped (digits_value_after 10 (capped n) digits) ≡ capped (digits_value_after 10 n digits)
capped_after n digits = go (cases_lt n 4294967296)
  where
    go : (n < 4294967296) ⊎ (4294967296 ≤ n) → capped (digits_value_after 10 (capped n) digits) ≡ capped (digits_value_after 10 n digits)
    go (inl low) = ap (λ m. capped (digits_value_after 10 m digits)) (capped_low n low)
    go (inr high) =
        ap (λ m. capped (digits_value_after 10 m digits)) (capped_high n high)
        ∙ capped_most (digits_value_after 10 4294967295 digits) (value_grows 4294967295 digits)
        ∙ sym (capped_high (digits_value_after 10 n digits) (let more = value_grows n digits in omega (arith, more)))

-- all digits are read
pub digits_read : (digits : List ℕ) (n i : ℕ) → begins_well digits ≡ true → length digits ≤ i → n < 4294967296 →
    capped (digits_value_after 10 n (drop i digits)) ≡ capped (digits_value 10 digits) → list_all (λ b. is_digit b 10) (drop i digits) ≡ list_all (λ b. is_digit b 10) digits → Some n ≡ option_map capped (decimal_in digits)
digits_read digits n i begun past low value each =
    let rest : drop i digits ≡ [] = drop_all i digits past in
    let all : list_all (λ b. is_digit b 10) digits ≡ true = sym each ∙ ap (list_all (λ b. is_digit b 10)) rest in
    let is : is_decimal digits ≡ true = and_from (begins_well digits) (list_all (λ b. is_digit b 10) digits) begun all in
    ap Some (sym (capped_low n low) ∙ ap (λ r. capped (digits_value_after 10 n r)) (sym rest) ∙ value)
    ∙ sym (ap (λ b. option_map capped (cond b (Some (digits_value 10 digits)) None)) is)
