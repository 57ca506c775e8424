-- Sets are the same where they have the same members; masks and their sets, of 128 bits and of 64.
use Rattle.std.proofs.Common.{◌≡◌, ℕ, zero, suc, ◌+◌, ◌<◌, ◌≤◌, ◌^◌, Bool, true, false, cond, ◌||◌}
use Rattle.std.proofs.Common.{◌&&◌, List, [], ◌∷◌, map, refl, sym, ◌∙◌, ap, arith, inl, inr, lit≤}
use Rattle.std.specs.Prelude.{◌==◌, ◌≢◌, bit_or, max, All}
use Rattle.std.specs.List.{filter, range_with_len}
use Rattle.std.specs.Int.{bit_at}
use Rattle.std.proofs.lemmas.Bool.{ne_eqb, eq-eqb, cases_eq, cases_lt}
use Rattle.std.proofs.lemmas.List.Elements.{All-head, All-tail}
use Rattle.std.proofs.lemmas.Nat.Bits.{bit_at-lt, bit_at_or, bit_at-zero, bit_at-pow_same}
use Rattle.std.proofs.lemmas.Nat.Bits.{bit_at-pow_other, same_from_bits, bit_at_above}
use Rattle.assign.specs.Sets.{has, set_where, union, members_of, mask_of, ones_of}

-- tests that agree from a on keep the same
pub filter_agree_from : (p q : ℕ → Bool) (a n : ℕ) → ((v : ℕ) → a ≤ v → v < a + n → p v ≡ q v) →
    filter p (range_with_len a n) ≡ filter q (range_with_len a n)
filter_agree_from p q a zero h = refl
filter_agree_from p q a (suc n) h =
    rw (h a (omega arith) (omega arith)) (ap (λ xs. cond (q a) (a ∷ xs) xs)
    (filter_agree_from p q (a + 1) n (λ v low high. h v (omega arith) (omega arith))))

-- numbers that fail may be left away at the end
filter_nothing : (p : ℕ → Bool) (a n : ℕ) → ((v : ℕ) → a ≤ v → p v ≡ false) →
    filter p (range_with_len a n) ≡ []
filter_nothing p a zero h = refl
filter_nothing p a (suc n) h =
    rw (h a (omega arith)) (filter_nothing p (a + 1) n (λ v low. h v (omega arith)))

pub filter_front : (p : ℕ → Bool) (a n k : ℕ) → n ≤ k → ((v : ℕ) → a + n ≤ v → p v ≡ false) →
    filter p (range_with_len a k) ≡ filter p (range_with_len a n)
filter_front p a zero k le h = filter_nothing p a k (λ v low. h v (omega arith))
filter_front p a (suc n) zero le h = absurd (omega arith)
filter_front p a (suc n) (suc k) le h = ap (λ xs. cond (p a) (a ∷ xs) xs)
    (filter_front p (a + 1) n k (omega arith) (λ v low. h v (omega arith)))

pub set_where-same : (p q : ℕ → Bool) → ((v : ℕ) → v < 128 → p v ≡ q v) → set_where p ≡ set_where q
unfolding set_where
set_where-same p q h = filter_agree_from p q 0 128 (λ v low high. h v (omega arith))

pub has_cond : (b : Bool) (x v : ℕ) (xs : List ℕ) →
    has (cond b (x ∷ xs) xs) v ≡ ((b && (x == v)) || has xs v)
has_cond true x v xs = refl
has_cond false x v xs = refl

and_no : (b c : Bool) → c ≡ false → (b && c) ≡ false
and_no true c h = h
and_no false c h = refl

has_skip : (b : Bool) (x v : ℕ) (xs : List ℕ) → x ≢ v → has (cond b (x ∷ xs) xs) v ≡ has xs v
has_skip b x v xs other = has_cond b x v xs
    ∙ ap (λ c. c || has xs v) (and_no b (x == v) (ne_eqb x v other))

has_here : (b : Bool) (x v : ℕ) (xs : List ℕ) → x ≡ v → has xs v ≡ false →
    has (cond b (x ∷ xs) xs) v ≡ b
has_here true x v xs same none = ap (λ c. c || has xs v) (eq-eqb x v same)
has_here false x v xs same none = none

has_below : (p : ℕ → Bool) (a n v : ℕ) → v < a → has (filter p (range_with_len a n)) v ≡ false
has_below p a zero v h = refl
has_below p a (suc n) v h = has_skip (p a) a v _ (λ e. omega arith)
    ∙ has_below p (a + 1) n v (omega arith)

pub has_above : (p : ℕ → Bool) (a n v : ℕ) → a + n ≤ v →
    has (filter p (range_with_len a n)) v ≡ false
has_above p a zero v h = refl
has_above p a (suc n) v h = has_skip (p a) a v _ (λ e. omega arith)
    ∙ has_above p (a + 1) n v (omega arith)

pub has_filter : (p : ℕ → Bool) (a n v : ℕ) → a ≤ v → v < a + n →
    has (filter p (range_with_len a n)) v ≡ p v
has_filter p a zero v low high = absurd (omega arith)
has_filter p a (suc n) v low high =
    elim (cases_eq a v) as (λ _. has (filter p (range_with_len a (suc n))) v ≡ p v) [
      | inl same ↦ has_here (p a) a v _ same (has_below p (a + 1) n v (omega arith)) ∙ ap p same
      | inr other ↦ has_skip (p a) a v _ other
          ∙ has_filter p (a + 1) n v (omega arith) (omega arith)
    ]

-- what a set has
pub has-set_where : (p : ℕ → Bool) (v : ℕ) → v < 128 → has (set_where p) v ≡ p v
unfolding set_where
has-set_where p v h = has_filter p 0 128 v (omega arith) (omega arith)

pub has-set_where_above : (p : ℕ → Bool) (v : ℕ) → 128 ≤ v → has (set_where p) v ≡ false
unfolding set_where
has-set_where_above p v h = has_above p 0 128 v (omega arith)

-- ---- bits as tests

or_bits : (x y : ℕ) → x < 2 → y < 2 → (max x y == 1) ≡ ((x == 1) || (y == 1))
or_bits zero zero h k = refl
or_bits zero (suc zero) h k = refl
or_bits (suc zero) zero h k = refl
or_bits (suc zero) (suc zero) h k = refl
or_bits zero (suc (suc y)) h k = absurd (omega arith)
or_bits (suc zero) (suc (suc y)) h k = absurd (omega arith)
or_bits (suc (suc x)) y h k = absurd (omega arith)

same_bits : (x y : ℕ) → x < 2 → y < 2 → (x == 1) ≡ (y == 1) → x ≡ y
same_bits zero zero h k e = refl
same_bits zero (suc zero) h k e = cc
same_bits (suc zero) zero h k e = cc
same_bits (suc zero) (suc zero) h k e = refl
same_bits zero (suc (suc y)) h k e = absurd (omega arith)
same_bits (suc zero) (suc (suc y)) h k e = absurd (omega arith)
same_bits (suc (suc x)) y h k e = absurd (omega arith)

-- whether a mask has a one there
abbrev pub is_one : ℕ → ℕ → Bool
is_one mask v = bit_at mask v == 1

pub is_one-or : (a b v : ℕ) → is_one (bit_or a b) v ≡ (is_one a v || is_one b v)
is_one-or a b v = ap (λ x. x == 1) (bit_at_or a b v)
    ∙ or_bits (bit_at a v) (bit_at b v) (bit_at-lt a v) (bit_at-lt b v)

pub is_one-pow : (v w : ℕ) → is_one (2 ^ v) w ≡ (v == w)
is_one-pow v w =
    elim (cases_eq v w) as (λ _. is_one (2 ^ v) w ≡ (v == w)) [
      | inl same ↦ ap (λ u. is_one (2 ^ v) u) (sym same) ∙ ap (λ x. x == 1) (bit_at-pow_same v)
          ∙ sym (eq-eqb v w same)
      | inr other ↦ ap (λ x. x == 1) (bit_at-pow_other v w (λ e. other (sym e)))
          ∙ sym (ne_eqb v w other)
    ]

is_one-mask_of : (xs : List ℕ) (v : ℕ) → is_one (mask_of xs) v ≡ has xs v
is_one-mask_of [] v = ap (λ x. x == 1) (bit_at-zero v)
is_one-mask_of (x ∷ xs) v = is_one-or (2 ^ x) (mask_of xs) v
    ∙ (λ i. is_one-pow x v i || is_one-mask_of xs v i)

pub same_masks : (a b : ℕ) → ((v : ℕ) → is_one a v ≡ is_one b v) → a ≡ b
same_masks a b h = same_from_bits a b
    (λ v. same_bits (bit_at a v) (bit_at b v) (bit_at-lt a v) (bit_at-lt b v) (h v))

-- the members of a mask give the mask back
pub mask_of-members_of : (mask : ℕ) → mask < 2 ^ 128 → mask_of (members_of mask) ≡ mask
mask_of-members_of mask h = same_masks _ _ (λ v. is_one-mask_of (members_of mask) v ∙
    (elim (cases_lt v 128) as (λ _. has (members_of mask) v ≡ is_one mask v) [
      | inl low ↦ has-set_where (is_one mask) v low
      | inr high ↦ has-set_where_above (is_one mask) v high
          ∙ sym (ap (λ x. x == 1) (bit_at_above mask 128 v h high))
    ]))

-- ---- sets of masks

pub has-members_of : (mask v : ℕ) → v < 128 → has (members_of mask) v ≡ is_one mask v
has-members_of mask v h = has-set_where (is_one mask) v h

pub members_of-or : (a b : ℕ) → members_of (bit_or a b) ≡ union (members_of a) (members_of b)
members_of-or a b = set_where-same _ _ (λ v h. is_one-or a b v
    ∙ sym (λ i. has-members_of a v h i || has-members_of b v h i))

-- ---- a mask of 64 bits as one of 128, and back from its ones

pub ones_of-members_of : (mask : ℕ) → mask < 2 ^ 64 → ones_of mask ≡ members_of mask
unfolding ones_of set_where
ones_of-members_of mask h = sym (filter_front (is_one mask) 0 64 128 (lit≤ tt)
    (λ v low. ap (λ x. x == 1) (bit_at_above mask 64 v h (omega arith))))

pub mask_of-ones_of : (mask : ℕ) → mask < 2 ^ 64 → mask_of (ones_of mask) ≡ mask
mask_of-ones_of mask h = ap mask_of (ones_of-members_of mask h)
    ∙ mask_of-members_of mask (omega arith)

pub masks_of-ones_of : (masks : List ℕ) → All (λ m. m < 2 ^ 64) masks →
    map mask_of (map ones_of masks) ≡ masks
masks_of-ones_of [] small = refl
masks_of-ones_of (m ∷ masks) small =
    λ i. mask_of-ones_of m (All-head (λ m. m < 2 ^ 64) m masks small) i
    ∷ masks_of-ones_of masks (All-tail (λ m. m < 2 ^ 64) m masks small) i
