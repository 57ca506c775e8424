-- A row of truth values, read from one word or from two.
use Rattle.rel_table.proofs.Prelude.{◌≡◌, ℕ, ◌+◌, ◌-◌, ◌*◌, ◌/◌, ◌%◌, ◌^◌, ◌<◌, ◌≤◌, List, get_or, sym, ◌∙◌, ap, arith, nat_eq, ◌⊎◌, inl, inr, bit_or, max, bit_at, cases_lt, shr-shr, shr_split, bit_at_or, bit_at-zero, bit_at_above, bit_at_cat_low, bit_at_cat_high, is_marked}

max_none : (x y : ℕ) → y ≡ 0 → max x y ≡ x
max_none x y h = omega arith

none_max : (x y : ℕ) → x ≡ 0 → max x y ≡ y
none_max x y h = omega arith

-- a word shifted down
down : (w s k : ℕ) → bit_at (w / 2 ^ s) k ≡ bit_at w (s + k)
down w s k = ap (λ x. x % 2) (shr-shr w s k)

-- a word shifted up: its bits past the 64th are lost
cut_bit : (x k : ℕ) → k < 64 → bit_at (x % 2 ^ 64) k ≡ bit_at x k
cut_bit x k low = sym (bit_at_cat_low (x / 2 ^ 64) 64 (x % 2 ^ 64) k low) ∙ ap (λ y. bit_at y k) (shr_split x 64)

up_none : (w t k : ℕ) → k < t → t ≤ 64 → bit_at (w * 2 ^ t % 2 ^ 64) k ≡ 0
up_none w t k low fits = cut_bit (w * 2 ^ t) k (omega arith) ∙ ap (λ y. bit_at y k) (let e : w * 2 ^ t ≡ w * 2 ^ t + 0 = omega arith in e) ∙ bit_at_cat_low w t 0 k low ∙ bit_at-zero k

up_bit : (w t k : ℕ) → t ≤ k → k < 64 → 0 < 2 ^ t → bit_at (w * 2 ^ t % 2 ^ 64) k ≡ bit_at w (k - t)
up_bit w t k from low some = cut_bit (w * 2 ^ t) k low ∙ ap (λ y. bit_at y k) (let e : w * 2 ^ t ≡ w * 2 ^ t + 0 = omega arith in e) ∙ bit_at_cat_high w t 0 k some from

marked_in : (words : List ℕ) (p q r : ℕ) → p / 64 ≡ q → p % 64 ≡ r → nat_eq (bit_at (get_or words q 0) r) 1 ≡ is_marked words p
unfolding is_marked
marked_in words p q r e f = λ i. nat_eq (bit_at (get_or words (sym e i) 0) (sym f i)) 1

-- all in one word
pub row_in_one : (words : List ℕ) (at k : ℕ) → at % 64 + k < 64 → nat_eq (bit_at (get_or words (at / 64) 0 / 2 ^ (at % 64)) k) 1 ≡ is_marked words (at + k)
row_in_one words at k low =
    ap (λ b. nat_eq b 1) (down (get_or words (at / 64) 0) (at % 64) k)
    ∙ marked_in words (at + k) (at / 64) (at % 64 + k) (let e : (at + k) / 64 ≡ at / 64 = omega arith in e) (let e : (at + k) % 64 ≡ at % 64 + k = omega arith in e)

-- some in the next word
pub row_in_two : (words : List ℕ) (at k : ℕ) → k < 64 → get_or words (at / 64) 0 < 2 ^ 64 → 0 < 2 ^ (64 - at % 64) →
    nat_eq (bit_at (bit_or (get_or words (at / 64) 0 / 2 ^ (at % 64)) (get_or words (at / 64 + 1) 0 * 2 ^ (64 - at % 64) % 2 ^ 64)) k) 1 ≡ is_marked words (at + k)
row_in_two words at k low fits some = ap (λ b. nat_eq b 1) (bit_at_or (get_or words (at / 64) 0 / 2 ^ (at % 64)) (get_or words (at / 64 + 1) 0 * 2 ^ (64 - at % 64) % 2 ^ 64) k) ∙ go (cases_lt (at % 64 + k) 64)
  where
    go : (at % 64 + k < 64) ⊎ (64 ≤ at % 64 + k) → nat_eq (max (bit_at (get_or words (at / 64) 0 / 2 ^ (at % 64)) k) (bit_at (get_or words (at / 64 + 1) 0 * 2 ^ (64 - at % 64) % 2 ^ 64) k)) 1 ≡ is_marked words (at + k)
    go (inl here) =
        ap (λ b. nat_eq b 1) (max_none (bit_at (get_or words (at / 64) 0 / 2 ^ (at % 64)) k) _ (up_none (get_or words (at / 64 + 1) 0) (64 - at % 64) k (omega arith) (omega arith)))
        ∙ row_in_one words at k here
    go (inr there) =
        ap (λ b. nat_eq b 1) (none_max (bit_at (get_or words (at / 64) 0 / 2 ^ (at % 64)) k) _ (down (get_or words (at / 64) 0) (at % 64) k ∙ bit_at_above (get_or words (at / 64) 0) 64 (at % 64 + k) fits there)
        ∙ up_bit (get_or words (at / 64 + 1) 0) (64 - at % 64) k (omega arith) low some)
        ∙ marked_in words (at + k) (at / 64 + 1) (k - (64 - at % 64)) (let e : (at + k) / 64 ≡ at / 64 + 1 = omega arith in e) (let e : (at + k) % 64 ≡ k - (64 - at % 64) = omega arith in e)
