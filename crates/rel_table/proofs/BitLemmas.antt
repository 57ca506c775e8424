-- What words make of the truth values that they stand for.
use Rattle.rel_table.proofs.Prelude.{◌≡◌, ◌≢◌, ℕ, zero, suc, ◌+◌, ◌-◌, ◌*◌, ◌/◌, ◌%◌, ◌^◌, ◌<◌, ◌≤◌, Bool, true, false, ◌&&◌, List, [], ◌∷◌, length, map, get_or, set, replicate, refl, sym, ◌∙◌, ap, subst, arith, ◌⊎◌, inl, inr, nat_eq, get_or-set_same, get_or-set_other, below_more, bit_or, bit_and, min, if◌then◌else◌, list_all, zip, bit_at, bit_not, div_ceil, w64, eq-eqb, eqb-true, cases_eq, cases_lt, cases_Bool, both_ways, false_from_ne_true, and_le_l, or_lt, div-mul-add, mod-mul-add, mod_below, div-add-mod', bit_at-lt, bit_at_and, bit_at-zero, bit_at_not, bit_at_set_same, bit_at_set_other, same_from_bits_below, shr_and_one, ext_get_or, length-set, length-replicate, get_or-replicate, length-map-range_with_len, get_or-map-range_with_len, meet, is_marked, values_of, IsPacked}
use Rattle.rel_table.proofs.Meets.{length-meet}
use Rattle.shared_lemmas.proofs.Booleans.{both_true}

-- ---- the truth values, place by place

pub length-values_of : (words : List ℕ) (n : ℕ) → length (values_of words n) ≡ n
unfolding values_of
length-values_of words n = length-map-range_with_len (is_marked words) 0 n

pub get_or-values_of : (words : List ℕ) (n at : ℕ) → at < n → get_or (values_of words n) at false ≡ is_marked words at
unfolding values_of
get_or-values_of words n at h = get_or-map-range_with_len (is_marked words) 0 n at at false h (omega arith)

-- how many there are
pub count_of : (words : List ℕ) (n : ℕ) (values : List Bool) → values_of words n ≡ values → n ≡ length values
count_of words n values e = sym (length-values_of words n) ∙ ap length e

pub values_are : (words : List ℕ) (n : ℕ) (values : List Bool) → length values ≡ n → ((at : ℕ) → at < n → get_or values at false ≡ is_marked words at) → values_of words n ≡ values
values_are words n values long each =
    ext_get_or false (values_of words n) values (length-values_of words n ∙ sym long)
    (λ at h. let low : at < n = omega (arith, h, length-values_of words n) in get_or-values_of words n at low ∙ sym (each at low))

-- a truth value's word is one of the words
pub word_within : (words : List ℕ) (n at : ℕ) → length words ≡ div_ceil n 64 → at < n → at / 64 < length words
word_within words n at long h = omega arith

pub is_marked-get : (words : List ℕ) (at : ℕ) → nat_eq (bit_and (get_or words (at / 64) 0 / 2 ^ (at % 64)) 1) 1 ≡ is_marked words at
unfolding is_marked
is_marked-get words at = ap (λ b. nat_eq b 1) (shr_and_one (get_or words (at / 64) 0) (at % 64))

pub is_marked-bit : (words : List ℕ) (k v : ℕ) → v < 64 → nat_eq (bit_at (get_or words k 0) v) 1 ≡ is_marked words (k * 64 + v)
unfolding is_marked
is_marked-bit words k v low = λ i. nat_eq (bit_at (get_or words (sym (div-mul-add k 64 v low) i) 0) (sym (mod-mul-add k 64 v low) i)) 1

-- ---- words without ones

-- so many words without ones
abbrev pub zeros : ℕ → List ℕ
zeros n = replicate n 0

get_or-zeros : (n k : ℕ) → get_or (zeros n) k 0 ≡ 0
get_or-zeros zero k = refl
get_or-zeros (suc n) zero = refl
get_or-zeros (suc n) (suc k) = get_or-zeros n k

pub unmarked : (n at : ℕ) → is_marked (zeros n) at ≡ false
unfolding is_marked
unmarked n at = ap (λ w. nat_eq (bit_at w (at % 64)) 1) (get_or-zeros n (at / 64)) ∙ ap (λ b. nat_eq b 1) (bit_at-zero (at % 64))

pub zeros_packed : (n count : ℕ) → n ≡ div_ceil count 64 → IsPacked (zeros n) count
zeros_packed n count long = record {
  long = length-replicate n 0 ∙ long;
  fits = λ k. subst (λ w. w < 2 ^ 64) (sym (get_or-zeros n k)) (omega arith);
  clear = λ at h. unmarked n at;
}

pub zeros_are : (n count : ℕ) → values_of (zeros n) count ≡ replicate count false
zeros_are n count = values_are (zeros n) count (replicate count false) (length-replicate count false) (λ at low. get_or-replicate count at false false low ∙ sym (unmarked n at))

-- ---- one truth value marked

abbrev marked : List ℕ → ℕ → List ℕ
marked words at = set words (at / 64) (bit_or (get_or words (at / 64) 0) (1 * 2 ^ (at % 64) % 2 ^ 64))

low_bit : (at : ℕ) → at % 64 < 64
low_bit at = mod_below at 64 (omega arith)

pub marked_same : (words : List ℕ) (at : ℕ) → at / 64 < length words → is_marked (marked words at) at ≡ true
unfolding is_marked
marked_same words at h =
    ap (λ w. nat_eq (bit_at w (at % 64)) 1) (get_or-set_same words (at / 64) _ 0 h)
    ∙ ap (λ b. nat_eq b 1) (bit_at_set_same w64 (get_or words (at / 64) 0) (at % 64) (low_bit at))

pub marked_other : (words : List ℕ) (at q : ℕ) → at / 64 < length words → q ≢ at → is_marked (marked words at) q ≡ is_marked words q
unfolding is_marked
marked_other words at q h other =
    elim (cases_eq (q / 64) (at / 64)) as (λ _. nat_eq (bit_at (get_or (marked words at) (q / 64) 0) (q % 64)) 1 ≡ nat_eq (bit_at (get_or words (q / 64) 0) (q % 64)) 1) [
      | inl same ↦
          ap (λ k. nat_eq (bit_at (get_or (marked words at) k 0) (q % 64)) 1) same
          ∙ ap (λ w. nat_eq (bit_at w (q % 64)) 1) (get_or-set_same words (at / 64) _ 0 h)
          ∙ ap (λ b. nat_eq b 1) (bit_at_set_other w64 (get_or words (at / 64) 0) (at % 64) (low_bit at) (q % 64) (λ e. other (sym (div-add-mod' q 64) ∙ (λ i. same i * 64 + e i) ∙ div-add-mod' at 64)))
          ∙ ap (λ k. nat_eq (bit_at (get_or words k 0) (q % 64)) 1) (sym same)
      | inr apart ↦ ap (λ w. nat_eq (bit_at w (q % 64)) 1) (get_or-set_other words (at / 64) (q / 64) _ 0 apart)
    ]

pub marked_packed : (words : List ℕ) (count at : ℕ) → at < count → IsPacked words count → IsPacked (marked words at) count
marked_packed words count at low packed = record {
  long = length-set words (at / 64) _ ∙ packed.long;
  fits = λ k. fits k (cases_eq k (at / 64));
  clear = λ q h. marked_other words at q within (λ e. omega (arith, h, low, e)) ∙ packed.clear q h;
}
  where
    within : at / 64 < length words
    within = word_within words count at packed.long low

    fits : (k : ℕ) → ((k ≡ at / 64) ⊎ (k ≢ at / 64)) → get_or (marked words at) k 0 < 2 ^ 64
    fits k (inl same) =
        subst (λ w. w < 2 ^ 64) (sym (ap (λ j. get_or (marked words at) j 0) same ∙ get_or-set_same words (at / 64) _ 0 within))
        (or_lt 64 (get_or words (at / 64) 0) (1 * 2 ^ (at % 64) % 2 ^ 64) (packed.fits (at / 64)) (mod_below (1 * 2 ^ (at % 64)) (2 ^ 64) (omega arith)))
    fits k (inr apart) = subst (λ w. w < 2 ^ 64) (sym (get_or-set_other words (at / 64) k _ 0 apart)) (packed.fits k)

pub marked_are : (words : List ℕ) (count at : ℕ) → at < count → IsPacked words count → values_of (marked words at) count ≡ set (values_of words count) at true
marked_are words count at low packed =
    values_are (marked words at) count (set (values_of words count) at true) (length-set (values_of words count) at true ∙ length-values_of words count) (λ q h. each q h (cases_eq q at))
  where
    within : at / 64 < length words
    within = word_within words count at packed.long low

    each : (q : ℕ) → q < count → ((q ≡ at) ⊎ (q ≢ at)) → get_or (set (values_of words count) at true) q false ≡ is_marked (marked words at) q
    each q h (inl same) =
        ap (λ k. get_or (set (values_of words count) at true) k false) same
        ∙ get_or-set_same (values_of words count) at true false (omega (arith, low, length-values_of words count))
        ∙ sym (marked_same words at within) ∙ ap (is_marked (marked words at)) (sym same)
    each q h (inr apart) =
        get_or-set_other (values_of words count) at q true false apart
        ∙ get_or-values_of words count q h ∙ sym (marked_other words at q within apart)

-- ---- two lists of words, bit by bit

both_bits : (x y : ℕ) → x < 2 → y < 2 → nat_eq (min x y) 1 ≡ (nat_eq x 1 && nat_eq y 1)
both_bits zero zero h k = refl
both_bits zero (suc zero) h k = refl
both_bits (suc zero) zero h k = refl
both_bits (suc zero) (suc zero) h k = refl
both_bits zero (suc (suc y)) h k = absurd (omega arith)
both_bits (suc zero) (suc (suc y)) h k = absurd (omega arith)
both_bits (suc (suc x)) y h k = absurd (omega arith)

abbrev pub both : List ℕ → List ℕ → List ℕ
both xs ys = map (λ p. bit_and p.0 p.1) (zip xs ys)

length-both : (xs ys : List ℕ) → length xs ≡ length ys → length (both xs ys) ≡ length xs
length-both [] ys e = refl
length-both (x ∷ xs) [] e = absurd (omega arith)
length-both (x ∷ xs) (y ∷ ys) e = ap suc (length-both xs ys (omega arith))

get_or-both : (xs ys : List ℕ) (k : ℕ) → length xs ≡ length ys → get_or (both xs ys) k 0 ≡ bit_and (get_or xs k 0) (get_or ys k 0)
get_or-both [] [] k e = let none : bit_and 0 0 ≤ 0 = and_le_l 0 0 in omega arith
get_or-both [] (y ∷ ys) k e = absurd (omega arith)
get_or-both (x ∷ xs) [] k e = absurd (omega arith)
get_or-both (x ∷ xs) (y ∷ ys) zero e = refl
get_or-both (x ∷ xs) (y ∷ ys) (suc k) e = get_or-both xs ys k (omega arith)

is_marked-both : (xs ys : List ℕ) (at : ℕ) → length xs ≡ length ys → is_marked (both xs ys) at ≡ (is_marked xs at && is_marked ys at)
unfolding is_marked
is_marked-both xs ys at e =
    ap (λ w. nat_eq (bit_at w (at % 64)) 1) (get_or-both xs ys (at / 64) e)
    ∙ ap (λ b. nat_eq b 1) (bit_at_and (get_or xs (at / 64) 0) (get_or ys (at / 64) 0) (at % 64))
    ∙ both_bits _ _ (bit_at-lt (get_or xs (at / 64) 0) (at % 64)) (bit_at-lt (get_or ys (at / 64) 0) (at % 64))

get_or-meet : (xs ys : List Bool) (k : ℕ) → length xs ≡ length ys → get_or (meet xs ys) k false ≡ (get_or xs k false && get_or ys k false)
get_or-meet [] ys k e = refl
get_or-meet (x ∷ xs) [] k e = absurd (omega arith)
get_or-meet (x ∷ xs) (y ∷ ys) zero e = refl
get_or-meet (x ∷ xs) (y ∷ ys) (suc k) e = get_or-meet xs ys k (omega arith)

pub both_packed : (xs ys : List ℕ) (count : ℕ) → IsPacked xs count → IsPacked ys count → IsPacked (both xs ys) count
both_packed xs ys count p q = record {
  long = length-both xs ys same ∙ p.long;
  fits = λ k. let less = and_le_l (get_or xs k 0) (get_or ys k 0) in let low = p.fits k in subst (λ w. w < 2 ^ 64) (sym (get_or-both xs ys k same)) (omega arith);
  clear = λ at h. is_marked-both xs ys at same ∙ ap (λ b. b && is_marked ys at) (p.clear at h);
}
  where
    same : length xs ≡ length ys
    same = p.long ∙ sym q.long

pub both_are : (xs ys : List ℕ) (count : ℕ) → IsPacked xs count → IsPacked ys count → values_of (both xs ys) count ≡ meet (values_of xs count) (values_of ys count)
both_are xs ys count p q =
    values_are (both xs ys) count (meet (values_of xs count) (values_of ys count)) (length-meet _ _ alike ∙ length-values_of xs count)
    (λ at h. get_or-meet (values_of xs count) (values_of ys count) at alike ∙ (λ i. get_or-values_of xs count at h i && get_or-values_of ys count at h i) ∙ sym (is_marked-both xs ys at (p.long ∙ sym q.long)))
  where
    alike : length (values_of xs count) ≡ length (values_of ys count)
    alike = length-values_of xs count ∙ sym (length-values_of ys count)

-- ---- equal lists have equal words

pub same_bit : (x y : ℕ) → x < 2 → y < 2 → nat_eq x 1 ≡ nat_eq y 1 → x ≡ y
same_bit zero zero h k e = refl
same_bit zero (suc zero) h k e = cc
same_bit (suc zero) zero h k e = cc
same_bit (suc zero) (suc zero) h k e = refl
same_bit zero (suc (suc y)) h k e = absurd (omega arith)
same_bit (suc zero) (suc (suc y)) h k e = absurd (omega arith)
same_bit (suc (suc x)) y h k e = absurd (omega arith)

pub same_words : (xs ys : List ℕ) (count : ℕ) → IsPacked xs count → IsPacked ys count → values_of xs count ≡ values_of ys count → xs ≡ ys
same_words xs ys count p q same = ext_get_or 0 xs ys (p.long ∙ sym q.long) (λ k low. same_from_bits_below 64 _ _ (p.fits k) (q.fits k) (λ v h. bit k v h))
  where
    mark : (at : ℕ) → ((at < count) ⊎ (count ≤ at)) → is_marked xs at ≡ is_marked ys at
    mark at (inl low) = sym (get_or-values_of xs count at low) ∙ ap (λ values. get_or values at false) same ∙ get_or-values_of ys count at low
    mark at (inr high) = p.clear at high ∙ sym (q.clear at high)

    bit : (k v : ℕ) → v < 64 → bit_at (get_or xs k 0) v ≡ bit_at (get_or ys k 0) v
    bit k v h =
        same_bit _ _ (bit_at-lt (get_or xs k 0) v) (bit_at-lt (get_or ys k 0) v)
        (is_marked-bit xs k v h ∙ mark (k * 64 + v) (cases_lt (k * 64 + v) count) ∙ sym (is_marked-bit ys k v h))

-- ---- within

-- what both have is the case of the second where it is of the first
abbrev pub follows : Bool × Bool → Bool
follows p = if p.0 then p.1 else true

zip_all : {X Y : Type 0} (t : X × Y → Bool) (xs : List X) (ys : List Y) (d : X) (e : Y) → ((k : ℕ) → k < length xs → k < length ys → t (get_or xs k d, get_or ys k e) ≡ true) → list_all t (zip xs ys) ≡ true
zip_all t [] ys d e each = refl
zip_all t (x ∷ xs) [] d e each = refl
zip_all t (x ∷ xs) (y ∷ ys) d e each = rw (each 0 (omega arith) (omega arith)) (zip_all t xs ys d e (λ k h l. each (suc k) (omega arith) (omega arith)))

zip_at : {X Y : Type 0} (t : X × Y → Bool) (xs : List X) (ys : List Y) (k : ℕ) (d : X) (e : Y) → list_all t (zip xs ys) ≡ true → k < length xs → k < length ys → t (get_or xs k d, get_or ys k e) ≡ true
zip_at t [] ys k d e all h l = absurd (omega arith)
zip_at t (x ∷ xs) [] k d e all h l = absurd (omega arith)
zip_at {X = X} {Y = Y} t (x ∷ xs) (y ∷ ys) k d e all h l = go (cases_Bool (t (x, y))) (zip_at t xs ys) k h l
  where
    go : ((t (x, y) ≡ true) ⊎ (t (x, y) ≡ false)) → ((k : ℕ) (d : X) (e : Y) → list_all t (zip xs ys) ≡ true → k < length xs → k < length ys → t (get_or xs k d, get_or ys k e) ≡ true) →
        (k : ℕ) → k < suc (length xs) → k < suc (length ys) → t (get_or (x ∷ xs) k d, get_or (y ∷ ys) k e) ≡ true
    go (inl on) rest zero h l = on
    go (inl on) rest (suc k) h l = rest k d e (rw on at all) (omega arith) (omega arith)
    go (inr off) rest k h l = absurd (both_ways false refl (rw off at all))

marked_follows : (xs ys : List ℕ) (at : ℕ) → follows (nat_eq (bit_at (get_or xs (at / 64) 0) (at % 64)) 1, nat_eq (bit_at (get_or ys (at / 64) 0) (at % 64)) 1) ≡ true → follows (is_marked xs at, is_marked ys at) ≡ true
unfolding is_marked
marked_follows xs ys at h = h

then_follows : (x y : Bool) → (x ≡ true → y ≡ true) → follows (x, y) ≡ true
then_follows true y h = h refl
then_follows false y h = refl

zip_fails : {X Y : Type 0} (t : X × Y → Bool) (xs : List X) (ys : List Y) (k : ℕ) (d : X) (e : Y) → k < length xs → k < length ys → t (get_or xs k d, get_or ys k e) ≡ false → list_all t (zip xs ys) ≡ false
zip_fails t xs ys k d e h l off = false_from_ne_true _ (λ all. both_ways _ off (zip_at t xs ys k d e all h l))

abbrev pub lacks_none : ℕ × ℕ → Bool
lacks_none p = nat_eq (bit_and p.0 (bit_not w64 p.1)) 0

-- a one that the second word lacks
abbrev one_unless : Bool → ℕ
one_unless true = 0
one_unless false = 1

left_over : (x y : ℕ) → x < 2 → y < 2 → min x (1 - y) ≡ one_unless (follows (nat_eq x 1, nat_eq y 1))
left_over zero zero h k = refl
left_over zero (suc zero) h k = refl
left_over (suc zero) zero h k = refl
left_over (suc zero) (suc zero) h k = refl
left_over zero (suc (suc y)) h k = absurd (omega arith)
left_over (suc zero) (suc (suc y)) h k = absurd (omega arith)
left_over (suc (suc x)) y h k = absurd (omega arith)

bit_left : (x y v : ℕ) → y < 2 ^ 64 → v < 64 → bit_at (bit_and x (bit_not w64 y)) v ≡ one_unless (follows (nat_eq (bit_at x v) 1, nat_eq (bit_at y v) 1))
bit_left x y v h low = bit_at_and x (bit_not w64 y) v ∙ ap (min (bit_at x v)) (bit_at_not w64 y v h low) ∙ left_over _ _ (bit_at-lt x v) (bit_at-lt y v)

one_not_zero : (b : Bool) → one_unless b ≡ 0 → b ≡ true
one_not_zero true h = refl
one_not_zero false h = absurd (omega arith)

-- a word lacks none of another's ones where each bit follows
word_follows : (x y : ℕ) → x < 2 ^ 64 → y < 2 ^ 64 → ((v : ℕ) → v < 64 → follows (nat_eq (bit_at x v) 1, nat_eq (bit_at y v) 1) ≡ true) → lacks_none (x, y) ≡ true
word_follows x y h k each =
    eq-eqb _ 0 (same_from_bits_below 64 _ 0 (let less = and_le_l x (bit_not w64 y) in omega arith) (omega arith)
    (λ v low. bit_left x y v k low ∙ ap one_unless (each v low) ∙ sym (bit_at-zero v)))

bit_follows : (x y v : ℕ) → y < 2 ^ 64 → v < 64 → lacks_none (x, y) ≡ true → follows (nat_eq (bit_at x v) 1, nat_eq (bit_at y v) 1) ≡ true
bit_follows x y v h low none = one_not_zero _ (sym (bit_left x y v h low) ∙ ap (λ w. bit_at w v) (eqb-true _ 0 none) ∙ bit_at-zero v)

-- lists of one length: word by word
pub words_within : (xs ys : List ℕ) (count : ℕ) → IsPacked xs count → IsPacked ys count →
    list_all lacks_none (zip xs ys) ≡ list_all follows (zip (values_of xs count) (values_of ys count))
words_within xs ys count p q = both_true _ _ down up
  where
    down : list_all lacks_none (zip xs ys) ≡ true → list_all follows (zip (values_of xs count) (values_of ys count)) ≡ true
    down all = zip_all follows (values_of xs count) (values_of ys count) false false (λ at h l. one at (omega (arith, h, length-values_of xs count)))
      where
        one : (at : ℕ) → at < count → follows (get_or (values_of xs count) at false, get_or (values_of ys count) at false) ≡ true
        one at low =
            (λ i. follows (get_or-values_of xs count at low i, get_or-values_of ys count at low i))
            ∙ marked_follows xs ys at (bit_follows _ _ (at % 64) (q.fits (at / 64)) (low_bit at)
            (zip_at lacks_none xs ys (at / 64) 0 0 all (word_within xs count at p.long low) (word_within ys count at q.long low)))

    up : list_all follows (zip (values_of xs count) (values_of ys count)) ≡ true → list_all lacks_none (zip xs ys) ≡ true
    up all = zip_all lacks_none xs ys 0 0 (λ k h l. word_follows _ _ (p.fits k) (q.fits k) (λ v low. bit k v low (cases_lt (k * 64 + v) count)))
      where
        bit : (k v : ℕ) → v < 64 → ((k * 64 + v < count) ⊎ (count ≤ k * 64 + v)) → follows (nat_eq (bit_at (get_or xs k 0) v) 1, nat_eq (bit_at (get_or ys k 0) v) 1) ≡ true
        bit k v h (inl low) =
            (λ i. follows (is_marked-bit xs k v h i, is_marked-bit ys k v h i))
            ∙ (λ i. follows (sym (get_or-values_of xs count (k * 64 + v) low) i, sym (get_or-values_of ys count (k * 64 + v) low) i))
            ∙ zip_at follows (values_of xs count) (values_of ys count) (k * 64 + v) false false all (omega (arith, low, length-values_of xs count)) (omega (arith, low, length-values_of ys count))
        bit k v h (inr high) = ap (λ b. follows (b, nat_eq (bit_at (get_or ys k 0) v) 1)) (is_marked-bit xs k v h ∙ p.clear (k * 64 + v) high)

-- lists of any lengths: one truth value after another
pub follows_more : (xs ys : List Bool) (i : ℕ) → i < length xs → i < length ys → (get_or xs i false ≡ true → get_or ys i false ≡ true) → ((k : ℕ) → k < i → follows (get_or xs k false, get_or ys k false) ≡ true) →
    (k : ℕ) → k < i + 1 → follows (get_or xs k false, get_or ys k false) ≡ true
follows_more xs ys i h l here before = below_more (λ k. follows (get_or xs k false, get_or ys k false) ≡ true) i before (then_follows _ _ here)

pub follows_all : (xs ys : List Bool) → ((k : ℕ) → k < length xs → k < length ys → follows (get_or xs k false, get_or ys k false) ≡ true) → true ≡ list_all follows (zip xs ys)
follows_all xs ys each = sym (zip_all follows xs ys false false each)

pub follows_not : (xs ys : List Bool) (i : ℕ) → i < length xs → i < length ys → get_or xs i false ≡ true → get_or ys i false ≡ false → false ≡ list_all follows (zip xs ys)
follows_not xs ys i h l on off = sym (zip_fails follows xs ys i false false h l (λ j. follows (on j, off j)))
