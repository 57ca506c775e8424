-- Relations of two variables whose rows and columns run one way.
use Rattle.propagators.proofs.Prelude.{◌≡◌, ℕ, zero, suc, ◌<◌, Bool, true, ◌&&◌, ◌||◌, List, [], ◌∷◌, refl, sym, ◌∙◌, ap, arith, inl, inr, ◌⊎◌, slice_index_or, and_parts, and_from, or_left, or_right, or_cases, both_ways, has, ones_of, is_wanted, AreBelow, AreSupported, IsWithin, IsThrough, IsRunning, IsChain, AreEnds, ones_of-zero}

-- the same, where what runs is to hold or not to hold
pub running_wanted : (d : ℕ) (holding : Bool) (p q : ℕ → ℕ → Bool) → ((x y : ℕ) → x < d → y < d → q x y ≡ is_wanted holding (p x y)) → IsRunning d p → IsRunning d q
running_wanted d holding p q same runs low x high y from to end few = go (runs low x high y from to end few)
  where
    go : (p x y ≡ p low y) ⊎ (p x y ≡ p high y) → (q x y ≡ q low y) ⊎ (q x y ≡ q high y)
    go (inl e) = inl (same x y (omega arith) few ∙ ap (is_wanted holding) e ∙ sym (same low y (omega arith) few))
    go (inr e) = inr (same x y (omega arith) few ∙ ap (is_wanted holding) e ∙ sym (same high y end few))

-- ---- what a chain supports

-- of some values those that pass one of two tests
abbrev pub ArePassing : List ℕ → (ℕ → Bool) → (ℕ → Bool) → List ℕ → Type 0
ArePassing ys p q found = (y : ℕ) → has found y ≡ ((has ys y && p y) || (has ys y && q y))

pub passing_part : (ys found : List ℕ) (p q : ℕ → Bool) → ArePassing ys p q found → (y : ℕ) → has found y ≡ true → has ys y ≡ true
passing_part ys found p q is y h = go (or_cases _ _ (sym (is y) ∙ h))
  where
    go : ((has ys y && p y) ≡ true) ⊎ ((has ys y && q y) ≡ true) → has ys y ≡ true
    go (inl one) = (and_parts _ _ one).0
    go (inr other) = (and_parts _ _ other).0

-- a value is found that goes with one between the ends
found_between : (ys found : List ℕ) (p q : ℕ → Bool) (y : ℕ) → ArePassing ys p q found → has ys y ≡ true → (p y ≡ true) ⊎ (q y ≡ true) → has found y ≡ true
found_between ys found p q y is there (inl one) = is y ∙ or_left _ _ (and_from _ _ there one)
found_between ys found p q y is there (inr other) = is y ∙ or_right _ _ (and_from _ _ there other)

module _ (d : ℕ) (accepted : List ℕ → Bool) (xs ys found_x found_y : List ℕ) (a b u v : ℕ) (row column : ℕ → ℕ → Bool) (chain : IsChain d accepted) (below_x : AreBelow d xs) (below_y : AreBelow d ys)
    (ends_x : AreEnds xs a b) (ends_y : AreEnds ys u v) (by_row : (x y : ℕ) → x < d → y < d → accepted (x ∷ y ∷ []) ≡ row x y) (by_column : (x y : ℕ) → x < d → y < d → accepted (x ∷ y ∷ []) ≡ column y x)
    (first : ArePassing xs (column u) (column v) found_x) (second : ArePassing ys (row a) (row b) found_y) where
  in_column : (x y : ℕ) → has xs x ≡ true → has ys y ≡ true → accepted (x ∷ y ∷ []) ≡ true → (column u x ≡ true) ⊎ (column v x ≡ true)
  in_column x y at_x at_y at = go (chain.columns u y v x (ends_y.low y at_y) (ends_y.high y at_y) (below_y v ends_y.last) (below_x x at_x))
    where
      go : (accepted (x ∷ y ∷ []) ≡ accepted (x ∷ u ∷ [])) ⊎ (accepted (x ∷ y ∷ []) ≡ accepted (x ∷ v ∷ [])) → (column u x ≡ true) ⊎ (column v x ≡ true)
      go (inl e) = inl (sym (by_column x u (below_x x at_x) (below_y u ends_y.first)) ∙ sym e ∙ at)
      go (inr e) = inr (sym (by_column x v (below_x x at_x) (below_y v ends_y.last)) ∙ sym e ∙ at)

  in_row : (x y : ℕ) → has xs x ≡ true → has ys y ≡ true → accepted (x ∷ y ∷ []) ≡ true → (row a y ≡ true) ⊎ (row b y ≡ true)
  in_row x y at_x at_y at = go (chain.rows a x b y (ends_x.low x at_x) (ends_x.high x at_x) (below_x b ends_x.last) (below_y y at_y))
    where
      go : (accepted (x ∷ y ∷ []) ≡ accepted (a ∷ y ∷ [])) ⊎ (accepted (x ∷ y ∷ []) ≡ accepted (b ∷ y ∷ [])) → (row a y ≡ true) ⊎ (row b y ≡ true)
      go (inl e) = inl (sym (by_row a y (below_x a ends_x.first) (below_y y at_y)) ∙ sym e ∙ at)
      go (inr e) = inr (sym (by_row b y (below_x b ends_x.last) (below_y y at_y)) ∙ sym e ∙ at)

  all : (tuple : List ℕ) → IsWithin (xs ∷ ys ∷ []) tuple → accepted tuple ≡ true → IsWithin (found_x ∷ found_y ∷ []) tuple
  all [] h at = absurd h
  all (x ∷ []) h at = absurd h.1
  all (x ∷ y ∷ []) h at = (found_between xs found_x (column u) (column v) x first h.0 (in_column x y h.0 h.1.0 at), (found_between ys found_y (row a) (row b) y second h.1.0 (in_row x y h.0 h.1.0 at), tt))
  all (x ∷ y ∷ z ∷ tuple) h at = absurd h.1.1

  only : (i x : ℕ) → has (slice_index_or (found_x ∷ found_y ∷ []) i []) x ≡ true → IsThrough (xs ∷ ys ∷ []) accepted i x
  only zero x h = go (or_cases _ _ (sym (first x) ∙ h))
    where
      through : (y : ℕ) → has ys y ≡ true → (has xs x && column y x) ≡ true → IsThrough (xs ∷ ys ∷ []) accepted 0 x
      through y at_y both = (let parts = and_parts _ _ both in record { tuple = x ∷ y ∷ []; within = (parts.0, (at_y, tt)); at = refl; is = by_column x y (below_x x parts.0) (below_y y at_y) ∙ parts.1 })

      go : ((has xs x && column u x) ≡ true) ⊎ ((has xs x && column v x) ≡ true) → IsThrough (xs ∷ ys ∷ []) accepted 0 x
      go (inl both) = through u ends_y.first both
      go (inr both) = through v ends_y.last both
  only (suc zero) y h = go (or_cases _ _ (sym (second y) ∙ h))
    where
      through : (x : ℕ) → has xs x ≡ true → (has ys y && row x y) ≡ true → IsThrough (xs ∷ ys ∷ []) accepted 1 y
      through x at_x both = (let parts = and_parts _ _ both in record { tuple = x ∷ y ∷ []; within = (at_x, (parts.0, tt)); at = refl; is = by_row x y (below_x x at_x) (below_y y parts.0) ∙ parts.1 })

      go : ((has ys y && row a y) ≡ true) ⊎ ((has ys y && row b y) ≡ true) → IsThrough (xs ∷ ys ∷ []) accepted 1 y
      go (inl both) = through a ends_x.first both
      go (inr both) = through b ends_x.last both
  only (suc (suc i)) x h = cc

  pub chain_supported : AreSupported (xs ∷ ys ∷ []) accepted (found_x ∷ found_y ∷ [])
  chain_supported = record { all = all; only = only }

-- where a set is empty nothing is supported
pub none_supported : (xs ys : List ℕ) (accepted : List ℕ → Bool) → (xs ≡ []) ⊎ (ys ≡ []) → AreSupported (xs ∷ ys ∷ []) accepted (ones_of 0 ∷ ones_of 0 ∷ [])
none_supported xs ys accepted none = record { all = λ tuple h at. absurd (nothing tuple h none); only = only }
  where
    nothing : (tuple : List ℕ) → IsWithin (xs ∷ ys ∷ []) tuple → (xs ≡ []) ⊎ (ys ≡ []) → ⊥
    nothing [] h none = h
    nothing (x ∷ []) h none = h.1
    nothing (x ∷ y ∷ tuple) h (inl e) = both_ways _ (ap (λ zs. has zs x) e) h.0
    nothing (x ∷ y ∷ tuple) h (inr e) = both_ways _ (ap (λ zs. has zs y) e) h.1.0

    only : (i x : ℕ) → has (slice_index_or (ones_of 0 ∷ ones_of 0 ∷ []) i []) x ≡ true → IsThrough (xs ∷ ys ∷ []) accepted i x
    only zero x h = absurd (both_ways _ (ap (λ zs. has zs x) ones_of-zero) h)
    only (suc zero) x h = absurd (both_ways _ (ap (λ zs. has zs x) ones_of-zero) h)
    only (suc (suc i)) x h = cc
