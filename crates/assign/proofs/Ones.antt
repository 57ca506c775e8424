-- The ones of a mask of 64 bits: of none, of the first ones, of those that pass a test, and how many they are.
use Rattle.assign.proofs.Prelude.{◌≡◌, ℕ, zero, suc, ◌+◌, ◌-◌, ◌<◌, ◌≤◌, ◌^◌, Bool, true, false, cond, ◌&&◌, ◌||◌, not, List, [], ◌∷◌, length, refl, sym, ◌∙◌, ap, arith, inl, inr, ◌⊎◌, lit≤, ◌==◌, ◌≢◌, bit_and, filter, range_with_len, bit_at, bit_not, cases_eq, eqb-true, eq-eqb, ne_eqb, pow_below, bit_at-lt, bit_at_not, numbers, has, set_where, members_of, filter_agree_from, is_one, is_one-pow, ones_of}
use Rattle.std.proofs.Common.{subst}
use Rattle.std.proofs.Math.Nat.{pow-le-pow_right}
use Rattle.std.proofs.lemmas.Nat.{zero_from_ones}
use Rattle.std.specs.Int.{w64}
use Rattle.std.specs.Prelude.{count_ones}
use Rattle.shared_lemmas.proofs.Lists.{filter_and}
use Rattle.assign.specs.SetLemmas.{filter_front, has_cond, has_filter, ones_of-members_of}
use Rattle.assign.specs.SetLemmas.{has_above as above}
use Rattle.assign.proofs.Masks.{is_one-and, length-members_of, members_of-ones}

pub ones_of-zero : ones_of 0 ≡ []
unfolding ones_of
ones_of-zero = refl

pub ones_of-first : (n : ℕ) → n ≤ 64 → ones_of (2 ^ n - 1) ≡ numbers n
ones_of-first n h = let few : 2 ^ n ≤ 2 ^ 64 = pow-le-pow_right (lit≤ tt) h in ones_of-members_of (2 ^ n - 1) (omega arith) ∙ members_of-ones n (omega arith)

-- the ones of a mask, by a test of each number
pub ones_of-listed : (mask n : ℕ) (ok : ℕ → Bool) → n ≤ 64 → ((r : ℕ) → r < n → is_one mask r ≡ ok r) → ((r : ℕ) → n ≤ r → is_one mask r ≡ false) → ones_of mask ≡ filter ok (numbers n)
unfolding ones_of
ones_of-listed mask n ok few low high = filter_front (is_one mask) 0 n 64 few (λ v far. high v (omega arith)) ∙ filter_agree_from (is_one mask) ok 0 n (λ v from below. low v (omega arith))

pub length-ones_of : (mask : ℕ) → mask < 2 ^ 64 → length (ones_of mask) ≡ count_ones mask
length-ones_of mask h = ap length (ones_of-members_of mask h) ∙ length-members_of mask (omega arith)

-- a mask without ones is 0
pub no_ones : (mask : ℕ) → mask < 2 ^ 64 → ones_of mask ≡ [] → mask ≡ 0
no_ones mask h none = zero_from_ones mask (sym (length-ones_of mask h) ∙ ap length none)

-- ---- bits as tests

-- the ones of a mask are those of another that pass a test
pub ones_of-passing : (mask other : ℕ) (ok : ℕ → Bool) → ((r : ℕ) → r < 64 → is_one mask r ≡ (is_one other r && ok r)) → ones_of mask ≡ filter ok (ones_of other)
unfolding ones_of
ones_of-passing mask other ok h = filter_agree_from (is_one mask) (λ r. is_one other r && ok r) 0 64 (λ v low high. h v (omega arith)) ∙ filter_and (is_one other) ok (numbers 64)

pub has-filter : (ok : ℕ → Bool) (xs : List ℕ) (r : ℕ) → has (filter ok xs) r ≡ (has xs r && ok r)
has-filter ok [] r = refl
has-filter ok (x ∷ xs) r = has_cond (ok x) x r (filter ok xs) ∙ ap (λ b. (ok x && (x == r)) || b) (has-filter ok xs r) ∙ go (x == r) refl
  where
    both : (a b c : Bool) → ((a && true) || (b && a)) ≡ ((true || b) && a)
    both true b c = refl
    both false true c = refl
    both false false c = refl

    other : (a b c : Bool) → ((a && false) || (b && c)) ≡ ((false || b) && c)
    other true b c = refl
    other false b c = refl

    go : (e : Bool) → (x == r) ≡ e → ((ok x && e) || (has xs r && ok r)) ≡ ((e || has xs r) && ok r)
    go true same = let at : x ≡ r = eqb-true x r same in subst (λ (y : ℕ). ((ok x && true) || (has xs r && ok y)) ≡ ((true || has xs r) && ok y)) at (both (ok x) (has xs r) (ok x))
    go false same = other (ok x) (has xs r) (ok r)

pub has-ones_of : (mask v : ℕ) → v < 64 → has (ones_of mask) v ≡ is_one mask v
unfolding ones_of
has-ones_of mask v low = has_filter (is_one mask) 0 64 v (omega arith) low

pub has_above : (mask v : ℕ) → 64 ≤ v → has (ones_of mask) v ≡ false
unfolding ones_of
has_above mask v high = above (is_one mask) 0 64 v high

-- where the ones of a mask are those of another that pass, its bits are so
is_one-passing : (mask other : ℕ) (ok : ℕ → Bool) (r : ℕ) → r < 64 → ones_of mask ≡ filter ok (ones_of other) → is_one mask r ≡ (is_one other r && ok r)
is_one-passing mask other ok r low is =
    sym (has-ones_of mask r low) ∙ ap (λ xs. has xs r) is ∙ has-filter ok (ones_of other) r ∙ ap (λ b. b && ok r) (has-ones_of other r low)

not_bit : (x : ℕ) → x < 2 → (1 - x == 1) ≡ not (x == 1)
not_bit zero h = refl
not_bit (suc zero) h = refl
not_bit (suc (suc x)) h = absurd (omega arith)

pub is_one-not : (a r : ℕ) → a < 2 ^ 64 → r < 64 → is_one (bit_not w64 a) r ≡ not (is_one a r)
is_one-not a r h low = ap (λ x. x == 1) (bit_at_not w64 a r h low) ∙ not_bit (bit_at a r) (bit_at-lt a r)

pub is_one-and_not : (a b r : ℕ) → b < 2 ^ 64 → r < 64 → is_one (bit_and a (bit_not w64 b)) r ≡ (is_one a r && not (is_one b r))
is_one-and_not a b r h low = is_one-and a (bit_not w64 b) r ∙ ap (λ t. is_one a r && t) (is_one-not b r h low)

rest_of : (one fails : Bool) → (one && not (one && fails)) ≡ (one && not fails)
rest_of true fails = refl
rest_of false fails = refl

-- without those that fail a test, those that pass it are left
pub ones_of-and_not : (relations failing : ℕ) (fails : ℕ → Bool) → failing < 2 ^ 64 → ones_of failing ≡ filter fails (ones_of relations) →
    ones_of (bit_and relations (bit_not w64 failing)) ≡ filter (λ r. not (fails r)) (ones_of relations)
ones_of-and_not relations failing fails small is = ones_of-passing _ relations (λ r. not (fails r)) (λ r low.
    is_one-and_not relations failing r small low ∙ ap (λ b. is_one relations r && not b) (is_one-passing failing relations fails r low is) ∙ rest_of (is_one relations r) (fails r))

-- ---- the least one, and the others

-- of the numbers from a on the first that passes, and the others that do
first_and_others : (p : ℕ → Bool) (a n v : ℕ) → a ≤ v → v < a + n → p v ≡ true → ((w : ℕ) → a ≤ w → w < v → p w ≡ false) →
    filter p (range_with_len a n) ≡ v ∷ filter (λ k. p k && not (v == k)) (range_with_len a n)
first_and_others p a zero v low high at none = absurd (omega arith)
first_and_others p a (suc n) v low high at none = go (cases_eq a v) (λ next. first_and_others p (a + 1) n v next (omega arith) at (λ w l h. none w (omega arith) h))
  where
    passing : List ℕ
    passing = filter p (range_with_len (a + 1) n)

    others : List ℕ
    others = filter (λ k. p k && not (v == k)) (range_with_len (a + 1) n)

    kept_apart : (w : ℕ) → v ≢ w → p w ≡ (p w && not (v == w))
    kept_apart w other = sym (ap (λ b. p w && not b) (ne_eqb v w other) ∙ and_same (p w))
      where
        and_same : (b : Bool) → (b && true) ≡ b
        and_same true = refl
        and_same false = refl

    left_out : (b : Bool) → (b && false) ≡ false
    left_out true = refl
    left_out false = refl

    go : (a ≡ v) ⊎ (a ≢ v) → (a + 1 ≤ v → passing ≡ v ∷ others) → filter p (range_with_len a (suc n)) ≡ v ∷ filter (λ k. p k && not (v == k)) (range_with_len a (suc n))
    go (inl same) further =
        ap (λ b. cond b (a ∷ passing) passing) (ap p same ∙ at)
        ∙ (λ i. same i ∷ filter_agree_from p (λ k. p k && not (v == k)) (a + 1) n (λ w from below. kept_apart w (λ e. omega arith)) i)
        ∙ ap (λ b. v ∷ cond b (a ∷ others) others) (sym (ap (λ b. p a && not b) (eq-eqb v a (sym same)) ∙ left_out (p a)))
    go (inr other) further =
        ap (λ b. cond b (a ∷ passing) passing) (none a (omega arith) (omega arith)) ∙ further (omega arith)
        ∙ ap (λ b. v ∷ cond (b && not (v == a)) (a ∷ others) others) (sym (none a (omega arith) (omega arith)))

pub ones_of-first_and_others : (mask v : ℕ) → v < 64 → bit_at mask v ≡ 1 → ((w : ℕ) → w < v → bit_at mask w ≡ 0) → ones_of mask ≡ v ∷ ones_of (bit_and mask (bit_not w64 (2 ^ v)))
unfolding ones_of
ones_of-first_and_others mask v low at none =
    first_and_others (is_one mask) 0 64 v (omega arith) (omega arith) (ap (λ x. x == 1) at) (λ w from below. ap (λ x. x == 1) (none w below))
    ∙ ap (λ xs. v ∷ xs) (filter_agree_from (λ k. is_one mask k && not (v == k)) (is_one (bit_and mask (bit_not w64 (2 ^ v)))) 0 64
    (λ k from below. sym (is_one-and_not mask (2 ^ v) k (pow_below v 64 low) (omega arith) ∙ ap (λ b. is_one mask k && not b) (is_one-pow v k))))
