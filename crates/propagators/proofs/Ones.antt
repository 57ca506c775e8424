-- The values of a mask: of none, of the first ones, of those that pass a test.
use Rattle.propagators.proofs.Prelude.{◌≡◌, ℕ, zero, suc, ◌+◌, ◌-◌, ◌*◌, ◌%◌, ◌<◌, ◌≤◌, ◌^◌, Bool, true, false, ◌&&◌, ◌||◌, not, List, [], ◌∷◌, length, map, refl, sym, ◌∙◌, ap, arith, inl, inr, ◌⊎◌, ◌==◌, ◌≢◌, bit_and, bit_or, All, filter, list_any, list_all, bit_at, bit_not, w64, count_leading_zeros, cases_lt, cases_eq, eqb-true, eq-eqb, ne_eqb, both_ways, All-head, All-tail, pow-suc, or_lt, xor_lt, and_le_l, pow_below, leading_top, bit_at-lt, bit_at_xor, bit_at_above, bit_at_cat_high, has, mask_of, is_one, is_one-or, is_one-pow, ones_of, is_not_empty, mask_of-ones_of, ones_of-zero, no_ones, ones_of-passing, has-ones_of, has_above, is_one-and}
use Rattle.std.specs.Int.Bits.{bit_xor}
use Rattle.propagators.proofs.Pruned.{filter_less}
use Rattle.assign.proofs.Ones.{is_one-and_not}

-- ---- bits as tests

-- ---- single values

-- the members of a mask by its bits, also past the last one
has_by_bits : (mask x : ℕ) (b : Bool) → mask < 2 ^ 64 → (x < 64 → is_one mask x ≡ b) → (64 ≤ x → b ≡ false) → has (ones_of mask) x ≡ b
has_by_bits mask x b fits low high = go (cases_lt x 64)
  where
    go : (x < 64) ⊎ (64 ≤ x) → has (ones_of mask) x ≡ b
    go (inl h) = has-ones_of mask x h ∙ low h
    go (inr h) = has_above mask x h ∙ sym (high h)

and_no : (b c : Bool) → b ≡ false → (b && c) ≡ false
and_no true c h = cc
and_no false c h = refl

pub has-either : (a b x : ℕ) → a < 2 ^ 64 → b < 2 ^ 64 → has (ones_of (bit_or a b)) x ≡ (has (ones_of a) x || has (ones_of b) x)
has-either a b x fa fb = has_by_bits (bit_or a b) x (has (ones_of a) x || has (ones_of b) x) (or_lt 64 a b fa fb)
    (λ low. is_one-or a b x ∙ sym (λ i. has-ones_of a x low i || has-ones_of b x low i))
    (λ high. (λ i. has_above a x high i || has_above b x high i))

pub has-one : (x y : ℕ) → x < 64 → has (ones_of (2 ^ x)) y ≡ (x == y)
has-one x y small = has_by_bits (2 ^ x) y (x == y) (pow_below x 64 small) (λ low. is_one-pow x y) (λ high. ne_eqb x y (λ e. omega arith))

pub has-without : (a x y : ℕ) → a < 2 ^ 64 → x < 64 → has (ones_of (bit_and a (bit_not w64 (2 ^ x)))) y ≡ (has (ones_of a) y && not (x == y))
has-without a x y fits small = has_by_bits _ y _ (let le = and_le_l a (bit_not w64 (2 ^ x)) in omega arith)
    (λ low. is_one-and_not a (2 ^ x) y (pow_below x 64 small) low ∙ (λ i. sym (has-ones_of a y low) i && not (is_one-pow x y i)))
    (λ high. and_no _ _ (has_above a y high))

pub has-and : (a b x : ℕ) → a < 2 ^ 64 → has (ones_of (bit_and a b)) x ≡ (has (ones_of a) x && is_one b x)
has-and a b x fits = has_by_bits (bit_and a b) x (has (ones_of a) x && is_one b x) (let le = and_le_l a b in omega arith)
    (λ low. is_one-and a b x ∙ ap (λ q. q && is_one b x) (sym (has-ones_of a x low)))
    (λ high. and_no _ _ (has_above a x high))

pub has-and_not : (a b x : ℕ) → a < 2 ^ 64 → b < 2 ^ 64 → has (ones_of (bit_and a (bit_not w64 b))) x ≡ (has (ones_of a) x && not (is_one b x))
has-and_not a b x fits small = has_by_bits (bit_and a (bit_not w64 b)) x (has (ones_of a) x && not (is_one b x)) (let le = and_le_l a (bit_not w64 b) in omega arith)
    (λ low. is_one-and_not a b x small low ∙ ap (λ q. q && not (is_one b x)) (sym (has-ones_of a x low)))
    (λ high. and_no _ _ (has_above a x high))

pub less-without : (a x : ℕ) → a < 2 ^ 64 → x < 64 → has (ones_of a) x ≡ true → bit_and a (bit_not w64 (2 ^ x)) < a
less-without a x fits small there =
    let le = and_le_l a (bit_not w64 (2 ^ x)) in
    let other : bit_and a (bit_not w64 (2 ^ x)) ≢ a = λ e. both_ways _ (ap (λ m. has (ones_of m) x) (sym e) ∙ has-without a x x fits small ∙ lost (has (ones_of a) x) (x == x) (eq-eqb x x refl)) there in
    omega arith
  where
    lost : (p q : Bool) → q ≡ true → (p && not q) ≡ false
    lost true true h = refl
    lost false true h = refl
    lost p false h = cc

pub has-xor : (a b x : ℕ) → a < 2 ^ 64 → b < 2 ^ 64 → has (ones_of (bit_xor a b)) x ≡ not (bit_at a x == bit_at b x)
has-xor a b x fa fb = has_by_bits (bit_xor a b) x (not (bit_at a x == bit_at b x)) (xor_lt 64 a b fa fb)
    (λ low. ap (λ y. y == 1) (bit_at_xor a b x) ∙ one (bit_at a x) (bit_at b x) (bit_at-lt a x) (bit_at-lt b x))
    (λ high. ap not (eq-eqb (bit_at a x) (bit_at b x) (bit_at_above a 64 x fa high ∙ sym (bit_at_above b 64 x fb high))))
  where
    one : (x y : ℕ) → x < 2 → y < 2 → ((x + y) % 2 == 1) ≡ not (x == y)
    one zero zero h k = refl
    one zero (suc zero) h k = refl
    one (suc zero) zero h k = refl
    one (suc zero) (suc zero) h k = refl
    one zero (suc (suc y)) h k = absurd (omega arith)
    one (suc zero) (suc (suc y)) h k = absurd (omega arith)
    one (suc (suc x)) y h k = absurd (omega arith)

-- ---- the least one and the greatest

pub none_lower : (mask least x : ℕ) → mask < 2 ^ 64 → ((i : ℕ) → i < least → bit_at mask i ≡ 0) → has (ones_of mask) x ≡ true → least ≤ x
none_lower mask least x fits below there = go (cases_lt x least) (cases_lt x 64)
  where
    go : (x < least) ⊎ (least ≤ x) → (x < 64) ⊎ (64 ≤ x) → least ≤ x
    go (inr le) small = le
    go (inl lt) (inl small) = absurd (both_ways _ (has-ones_of mask x small ∙ ap (λ y. y == 1) (below x lt)) there)
    go (inl lt) (inr large) = absurd (both_ways _ (has_above mask x large) there)

-- the place of the highest one
pub highest : (mask : ℕ) → 0 < mask → mask < 2 ^ 64 → (j : ℕ) × (count_leading_zeros 64 mask + suc j ≡ 64) × (has (ones_of mask) j ≡ true) × ((x : ℕ) → has (ones_of mask) x ≡ true → x ≤ j)
highest mask some fits =
    let top = leading_top 64 mask some fits in
    let whole = top.1 in
    (top.0, top.1, has-ones_of mask top.0 (omega arith) ∙ ap (λ y. y == 1) (one_at mask top.0 top.2 top.3), none_higher top.0 top.3)
  where
    one_at : (m k : ℕ) → 2 ^ k ≤ m → m < 2 ^ suc k → bit_at m k ≡ 1
    one_at m k low high =
        let twice : 2 ^ suc k ≡ 2 ^ k * 2 = pow-suc 2 k in
        ap (λ n. bit_at n k) (let e : m ≡ 1 * 2 ^ k + (m - 2 ^ k) = omega arith in e) ∙ bit_at_cat_high 1 k (m - 2 ^ k) k (omega arith) (omega arith) ∙ ap (bit_at 1) (let e : k - k ≡ 0 = omega arith in e)

    none_higher : (j : ℕ) → mask < 2 ^ suc j → (x : ℕ) → has (ones_of mask) x ≡ true → x ≤ j
    none_higher j high x there = go (cases_lt j x) (cases_lt x 64)
      where
        go : (j < x) ⊎ (x ≤ j) → (x < 64) ⊎ (64 ≤ x) → x ≤ j
        go (inr le) small = le
        go (inl lt) (inl small) = absurd (both_ways _ (has-ones_of mask x small ∙ ap (λ y. y == 1) (bit_at_above mask (suc j) x high (omega arith))) there)
        go (inl lt) (inr large) = absurd (both_ways _ (has_above mask x large) there)

pub none_in : (a : ℕ) → a ≡ 0 → is_not_empty (ones_of a) ≡ false
none_in a e = ap (λ m. is_not_empty (ones_of m)) e ∙ ap is_not_empty ones_of-zero

pub some_in : (a : ℕ) → a < 2 ^ 64 → a ≢ 0 → is_not_empty (ones_of a) ≡ true
some_in a fits some = go (ones_of a) refl
  where
    go : (xs : List ℕ) → ones_of a ≡ xs → is_not_empty xs ≡ true
    go [] e = absurd (some (no_ones a fits e))
    go (x ∷ xs) e = refl

pub or_none : (a b : Bool) → b ≡ false → (a || b) ≡ a
or_none true b h = refl
or_none false b h = h

-- a mask of no more values has those that are among the others
pub cut_length : (a b : ℕ) → a < 2 ^ 64 → b < 2 ^ 64 → ((x : ℕ) → has (ones_of b) x ≡ true → has (ones_of a) x ≡ true) → a ≢ b → length (ones_of b) < length (ones_of a)
cut_length a b fa fb part other = go (filter_less (is_one b) (ones_of a))
  where
    picked : ones_of b ≡ filter (is_one b) (ones_of a)
    picked = ones_of-passing b a (is_one b) (λ r low. here r low (is_one b r) refl)
      where
        here : (r : ℕ) → r < 64 → (q : Bool) → is_one b r ≡ q → is_one b r ≡ (is_one a r && is_one b r)
        here r low true on = on ∙ sym ((λ i. (sym (has-ones_of a r low) ∙ part r (has-ones_of b r low ∙ on)) i && on i))
        here r low false off = off ∙ sym (ap (λ q. is_one a r && q) off ∙ none (is_one a r))
          where
            none : (q : Bool) → (q && false) ≡ false
            none true = refl
            none false = refl

    go : (filter (is_one b) (ones_of a) ≡ ones_of a) ⊎ (length (filter (is_one b) (ones_of a)) < length (ones_of a)) → length (ones_of b) < length (ones_of a)
    go (inl same) = absurd (other (sym (mask_of-ones_of a fa) ∙ ap mask_of (sym same ∙ sym picked) ∙ mask_of-ones_of b fb))
    go (inr less) = omega (arith, ap length picked)

-- whether some mask is 0
pub some_zero : (masks : List ℕ) → All (λ m. m < 2 ^ 64) masks → list_any (λ m. m == 0) masks ≡ not (list_all is_not_empty (map ones_of masks))
some_zero [] small = refl
some_zero (m ∷ masks) small = go (cases_eq m 0) (some_zero masks (All-tail (λ m. m < 2 ^ 64) m masks small))
  where
    go : (m ≡ 0) ⊎ (m ≢ 0) → list_any (λ m. m == 0) masks ≡ not (list_all is_not_empty (map ones_of masks)) → ((m == 0) || list_any (λ m. m == 0) masks) ≡ not (is_not_empty (ones_of m) && list_all is_not_empty (map ones_of masks))
    go (inl e) rest = (λ i. eq-eqb m 0 e i || list_any (λ m. m == 0) masks) ∙ sym (λ i. not (none_in m e i && list_all is_not_empty (map ones_of masks)))
    go (inr ne) rest = (λ i. ne_eqb m 0 ne i || rest i) ∙ sym (λ i. not (some_in m (All-head (λ m. m < 2 ^ 64) m masks small) ne i && list_all is_not_empty (map ones_of masks)))

pub is_zero : (a : ℕ) → a < 2 ^ 64 → (a == 0) ≡ not (is_not_empty (ones_of a))
is_zero a fits = go (cases_eq a 0)
  where
    go : (a ≡ 0) ⊎ (a ≢ 0) → (a == 0) ≡ not (is_not_empty (ones_of a))
    go (inl e) = eq-eqb a 0 e ∙ sym (ap not (none_in a e))
    go (inr ne) = ne_eqb a 0 ne ∙ sym (ap not (some_in a fits ne))

pub no_common : (a b : ℕ) → a < 2 ^ 64 → b < 2 ^ 64 → (bit_and a b == 0) ≡ true → (x : ℕ) → has (ones_of a) x ≡ true → has (ones_of b) x ≡ true → ⊥
no_common a b fa fb none x in_a in_b = both_ways _ (ap (λ m. has (ones_of m) x) (eqb-true (bit_and a b) 0 none) ∙ ap (λ xs. has xs x) ones_of-zero)
    (has-and a b x fa ∙ (λ i. in_a i && one (cases_lt x 64) i))
  where
    one : (x < 64) ⊎ (64 ≤ x) → is_one b x ≡ true
    one (inl low) = sym (has-ones_of b x low) ∙ in_b
    one (inr high) = absurd (both_ways _ (has_above b x high) in_b)
