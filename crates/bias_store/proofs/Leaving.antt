-- What a word says of the scopes that have relations.
use Rattle.bias_store.proofs.Prelude.{◌≡◌, ℕ, ◌+◌, ◌-◌, ◌<◌, ◌≤◌, ◌^◌, Bool, true, false, ◌&&◌, not, List, length, get_or, refl, sym, ◌∙◌, ap, subst, arith, inl, inr, ◌⊎◌, ◌==◌, bit_at, bit_and, bit_not, w64, cases_lt, and_parts, and_le_l, bit_at_above, eq-eqb, le-ltb, any_number, has, numbers, is_one, is_one-and_not, has-ones_of, ones_of, IsLeastOne, IsLeftFrom, PassesOver}
use Rattle.std.proofs.lemmas.Nat.Bits.{bit_at-zero}
use Rattle.assign.proofs.Masks.{is_one-and}
use Rattle.assign.proofs.Fronts.{has-numbers}

module _ (masks : List ℕ) (bare : List Bool) (from count row first : ℕ) (few : count ≤ 64) (small : row < 2 ^ 64) (most : first < 2 ^ 64) (is : PassesOver masks bare) (firsts : ones_of first ≡ numbers count)
    (told : (k : ℕ) → k < count → is_one row k ≡ get_or bare (from + k) false) where
  among : (j : ℕ) → j < 64 → is_one first j ≡ has (numbers count) j
  among j low = sym (has-ones_of first j low) ∙ ap (λ xs. has xs j) firsts

  within : (j : ℕ) → is_one (bit_and first (bit_not w64 row)) j ≡ true → j < count
  within j on = go (cases_lt j 64) (cases_lt j count)
    where
      here : is_one first j ≡ true
      here = (and_parts (is_one first j) (is_one (bit_not w64 row) j) (sym (is_one-and first (bit_not w64 row) j) ∙ on)).0

      go : (j < 64) ⊎ (64 ≤ j) → (j < count) ⊎ (count ≤ j) → j < count
      go side (inl low) = low
      go (inl small_one) (inr past) = let none : is_one first j ≡ false = among j small_one ∙ has-numbers count j (omega arith) (omega arith) ∙ le-ltb j count past in let on = here in absurd (cc)
      go (inr far) (inr past) = let none : is_one first j ≡ false = ap (λ x. x == 1) (bit_at_above first 64 j most far) in let on = here in absurd (cc)

  passed : (j : ℕ) → j < count → is_one (bit_and first (bit_not w64 row)) j ≡ false → get_or masks (from + j) 0 ≡ 0
  passed j low off = is.none (from + j) (sym (told j low) ∙ go (is_one row j) refl)
    where
      on : is_one first j ≡ true
      on = among j (omega arith) ∙ any_number (λ x. x == j) count j low (eq-eqb j j refl)

      both : (is_one first j && not (is_one row j)) ≡ false
      both = sym (is_one-and_not first row j small (omega arith)) ∙ off

      go : (b : Bool) → is_one row j ≡ b → is_one row j ≡ true
      go true e = e
      go false e = let kept : (is_one first j && not (is_one row j)) ≡ true = (λ i. on i && not (e i)) in let lost = both in absurd (cc)

  pub left_from : IsLeftFrom masks from count (bit_and first (bit_not w64 row))
  left_from = record { within = within; passed = passed; small = let less = and_le_l first (bit_not w64 row) in omega arith }

module _ (masks : List ℕ) (from count word : ℕ) (is : IsLeftFrom masks from count word) where
  -- no scope has some where the word is zero
  pub none_of_word : word ≡ 0 → (k : ℕ) → from ≤ k → k < from + count → get_or masks k 0 ≡ 0
  none_of_word zero k low high =
      ap (λ s. get_or masks s 0) (let e : k ≡ from + (k - from) = omega arith in e)
      ∙ is.passed (k - from) (omega arith) (ap (λ m. is_one m (k - from)) zero ∙ ap (λ x. x == 1) (bit_at-zero (k - from)))

  module _ (at others : ℕ) (least : IsLeastOne word at others) where
    -- its least one is at one of these scopes
    pub least_within : at < count
    least_within = is.within at (ap (λ x. x == 1) least.one)

    -- and none before that has some
    pub none_before_least : (k : ℕ) → from ≤ k → k < from + at → get_or masks k 0 ≡ 0
    none_before_least k low high =
        let within = least_within in
        ap (λ s. get_or masks s 0) (let e : k ≡ from + (k - from) = omega arith in e)
        ∙ is.passed (k - from) (omega arith) (ap (λ x. x == 1) (least.before (k - from) (omega arith)))

-- a scope behind those that have none, up to the least one of a word
module _ (masks : List ℕ) (start from count word at place others : ℕ) (is : IsLeftFrom masks from count word) (least : IsLeastOne word at others) (same : place ≡ at)
    (none : (k : ℕ) → start ≤ k → k < from → get_or masks k 0 ≡ 0) where
  pub place_within : place < count
  place_within = let low = least_within masks from count word is at others least in omega arith

  pub none_before : (k : ℕ) → start ≤ k → k < from + place → get_or masks k 0 ≡ 0
  none_before k low high =
      elim (cases_lt k from) as (λ _. get_or masks k 0 ≡ 0) [
        | inl earlier ↦ none k low earlier
        | inr behind ↦ none_before_least masks from count word is at others least k behind (omega arith)
      ]

  -- and at its place
  pub none_through : get_or masks (from + place) 0 ≡ 0 → (k : ℕ) → start ≤ k → k < from + place + 1 → get_or masks k 0 ≡ 0
  none_through zero k low high =
      elim (cases_lt k (from + place)) as (λ _. get_or masks k 0 ≡ 0) [
        | inl earlier ↦ none_before k low earlier
        | inr behind ↦ ap (λ s. get_or masks s 0) (let e : k ≡ from + place = omega arith in e) ∙ zero
      ]
