-- Which of two lists of words comes first.
use Rattle.rel_table.proofs.Prelude.{◌≡◌, ◌≢◌, ℕ, zero, suc, ◌+◌, ◌*◌, ◌/◌, ◌%◌, ◌^◌, ◌<◌, Bool, true, false, List, [], ◌∷◌, length, get_or, refl, sym, ◌∙◌, ap, arith, inl, inr, nat_eq, bit_xor, bit_at, trailing_zeros, w64, cases_eq, cases_lt, xor_lt, bit_at-lt, bit_at_xor, bit_at-zero, bit_at-trailing_zeros, same_from_bits, is_above, is_marked, values_of, IsPacked, DifferFirst, Compares}
use Rattle.rel_table.proofs.BitLemmas.{length-values_of, get_or-values_of, is_marked-bit, same_bit}
use Rattle.rel_table.proofs.Tables.{not_above_itself}

-- ---- one word

same_parity : (x y : ℕ) → x < 2 → y < 2 → (x + y) % 2 ≡ 0 → x ≡ y
same_parity zero zero h k e = refl
same_parity zero (suc zero) h k e = absurd (let one : (0 + 1) % 2 ≡ 1 = omega arith in omega (arith, one, e))
same_parity (suc zero) zero h k e = absurd (let one : (1 + 0) % 2 ≡ 1 = omega arith in omega (arith, one, e))
same_parity (suc zero) (suc zero) h k e = refl
same_parity zero (suc (suc y)) h k e = absurd (omega arith)
same_parity (suc zero) (suc (suc y)) h k e = absurd (omega arith)
same_parity (suc (suc x)) y h k e = absurd (omega arith)

other_parity : (x y : ℕ) → x < 2 → y < 2 → (x + y) % 2 ≡ 1 → x ≢ y
other_parity zero zero h k e same = let none : (0 + 0) % 2 ≡ 0 = omega arith in omega (arith, none, e)
other_parity (suc zero) (suc zero) h k e same = let none : (1 + 1) % 2 ≡ 0 = omega arith in omega (arith, none, e)
other_parity zero (suc y) h k e same = omega arith
other_parity (suc x) zero h k e same = omega arith
other_parity (suc zero) (suc (suc y)) h k e same = omega arith
other_parity (suc (suc x)) (suc y) h k e same = omega arith

xor_some : (x y : ℕ) → x ≢ y → 0 < bit_xor x y
xor_some x y apart = elim (cases_eq (bit_xor x y) 0) [
  | inl none ↦ absurd (apart (same_from_bits x y (λ k. same_parity _ _ (bit_at-lt x k) (bit_at-lt y k) (sym (bit_at_xor x y k) ∙ ap (λ n. bit_at n k) none ∙ bit_at-zero k))))
  | inr some ↦ omega arith
]

pub first_other_low : (x y : ℕ) → x < 2 ^ 64 → y < 2 ^ 64 → x ≢ y → trailing_zeros w64 (bit_xor x y) < 64
first_other_low x y h k apart = (bit_at-trailing_zeros w64 (bit_xor x y) (xor_some x y apart) (xor_lt 64 x y h k)).0

pub first_other_is : (x y : ℕ) (on : Bool) → x < 2 ^ 64 → y < 2 ^ 64 → x ≢ y → on ≡ nat_eq (bit_at x (trailing_zeros w64 (bit_xor x y))) 1 → DifferFirst x y on
first_other_is x y on h k apart is =
    let found = bit_at-trailing_zeros w64 (bit_xor x y) (xor_some x y apart) (xor_lt 64 x y h k) in
    record {
      at = trailing_zeros w64 (bit_xor x y);
      within = found.0;
      before = λ j low. same_parity _ _ (bit_at-lt x j) (bit_at-lt y j) (sym (bit_at_xor x y j) ∙ found.2 j low);
      differ = other_parity _ _ (bit_at-lt x _) (bit_at-lt y _) (sym (bit_at_xor x y _) ∙ found.1);
      is = is;
    }

-- ---- lists of truth values

-- the first of two lists that differ first at a place is above where it is true there
pub is_above-at : (r q : List Bool) (k : ℕ) → length r ≡ length q → k < length r → ((j : ℕ) → j < k → get_or r j false ≡ get_or q j false) → get_or r k false ≢ get_or q k false → is_above r q ≡ get_or r k false
is_above-at [] q k long low before differ = absurd (omega arith)
is_above-at (x ∷ r) [] k long low before differ = absurd (omega arith)
is_above-at (true ∷ r) (true ∷ q) zero long low before differ = absurd (differ refl)
is_above-at (true ∷ r) (false ∷ q) zero long low before differ = refl
is_above-at (false ∷ r) (true ∷ q) zero long low before differ = refl
is_above-at (false ∷ r) (false ∷ q) zero long low before differ = absurd (differ refl)
is_above-at (true ∷ r) (true ∷ q) (suc k) long low before differ = is_above-at r q k (omega arith) (omega arith) (λ j h. before (suc j) (omega arith)) differ
is_above-at (true ∷ r) (false ∷ q) (suc k) long low before differ = absurd (let e : true ≡ false = before 0 (omega arith) in cc)
is_above-at (false ∷ r) (true ∷ q) (suc k) long low before differ = absurd (let e : false ≡ true = before 0 (omega arith) in cc)
is_above-at (false ∷ r) (false ∷ q) (suc k) long low before differ = is_above-at r q k (omega arith) (omega arith) (λ j h. before (suc j) (omega arith)) differ

-- ---- lists of words

marks_differ : (xs ys : List ℕ) (k v : ℕ) → v < 64 → bit_at (get_or xs k 0) v ≢ bit_at (get_or ys k 0) v → is_marked xs (k * 64 + v) ≢ is_marked ys (k * 64 + v)
marks_differ xs ys k v low differ same =
    differ (same_bit _ _ (bit_at-lt (get_or xs k 0) v) (bit_at-lt (get_or ys k 0) v) (is_marked-bit xs k v low ∙ same ∙ sym (is_marked-bit ys k v low)))

marks_before : (xs ys : List ℕ) (k v j : ℕ) → ((i : ℕ) → i < k → get_or xs i 0 ≡ get_or ys i 0) → v < 64 → ((u : ℕ) → u < v → bit_at (get_or xs k 0) u ≡ bit_at (get_or ys k 0) u) →
    j < k * 64 + v → is_marked xs j ≡ is_marked ys j
unfolding is_marked
marks_before xs ys k v j words low bits h =
    elim (cases_lt (j / 64) k) as (λ _. nat_eq (bit_at (get_or xs (j / 64) 0) (j % 64)) 1 ≡ nat_eq (bit_at (get_or ys (j / 64) 0) (j % 64)) 1) [
      | inl below ↦ ap (λ w. nat_eq (bit_at w (j % 64)) 1) (words (j / 64) below)
      | inr not_below ↦
          let here : j / 64 ≡ k = omega arith in
          let rest : j % 64 < v = omega arith in
          (λ i. nat_eq (bit_at (get_or xs (here i) 0) (j % 64)) 1) ∙ ap (λ b. nat_eq b 1) (bits (j % 64) rest) ∙ (λ i. nat_eq (bit_at (get_or ys (sym here i) 0) (j % 64)) 1)
    ]

pub compared : (xs ys : List ℕ) (count : ℕ) (on : Bool) → IsPacked xs count → IsPacked ys count → Compares xs ys on → on ≡ is_above (values_of xs count) (values_of ys count)
compared xs ys count on p q (inl same) = same.1 ∙ sym (ap (λ ws. is_above (values_of xs count) (values_of ws count)) (sym same.0) ∙ not_above_itself (values_of xs count))
compared xs ys count on p q (inr found) =
    found.first.is
    ∙ is_marked-bit xs found.at found.first.at found.first.within
    ∙ sym (get_or-values_of xs count at low)
    ∙ sym (is_above-at (values_of xs count) (values_of ys count) at (length-values_of xs count ∙ sym (length-values_of ys count)) (omega (arith, low, length-values_of xs count))
    (λ j h. get_or-values_of xs count j (omega (arith, low, h)) ∙ marks_before xs ys found.at found.first.at j found.before found.first.within found.first.before h ∙ sym (get_or-values_of ys count j (omega (arith, low, h))))
    (λ e. differ (sym (get_or-values_of xs count at low) ∙ e ∙ get_or-values_of ys count at low)))
  where
    at : ℕ
    at = found.at * 64 + found.first.at

    differ : is_marked xs (found.at * 64 + found.first.at) ≢ is_marked ys (found.at * 64 + found.first.at)
    differ = marks_differ xs ys found.at found.first.at found.first.within found.first.differ

    low : found.at * 64 + found.first.at < count
    low = elim (cases_lt (found.at * 64 + found.first.at) count) [
      | inl below ↦ below
      | inr above ↦ absurd (differ (p.clear _ above ∙ sym (q.clear _ above)))
    ]
