-- The bits of a mask of the first values, and of one of those from a first to a last one.
use Rattle.find_c.proofs.Prelude.{◌≡◌, ℕ, ◌+◌, ◌-◌, ◌^◌, ◌<◌, ◌≤◌, ◌⊎◌, inl, inr, refl, ◌&&◌, not, sym, ◌∙◌, ap, arith, ◌==◌, bit_at}
use Rattle.std.proofs.lemmas.Bool.{cases_lt, le-leb, le-ltb, lt-leb, lt-ltb}
use Rattle.std.proofs.lemmas.Nat.Bits.{bit_at_ones, bit_at_ones_above}
use Rattle.std.specs.Prelude.{nat_le, nat_lt}

pub ones_below : (n y : ℕ) → (bit_at (2 ^ n - 1) y == 1) ≡ nat_lt y n
ones_below n y = go (cases_lt y n)
  where
    go : (y < n) ⊎ (n ≤ y) → (bit_at (2 ^ n - 1) y == 1) ≡ nat_lt y n
    go (inl low) = ap (λ x. x == 1) (bit_at_ones n y low) ∙ sym (lt-ltb y n low)
    go (inr high) = ap (λ x. x == 1) (bit_at_ones_above n y high) ∙ sym (le-ltb y n high)

-- from the first on, and no later than the last
pub between_by : (first last y : ℕ) → (nat_lt y (last + 1) && not (nat_lt y first)) ≡ (nat_le first y && nat_le y last)
between_by first last y = go (cases_lt y first) (cases_lt y (last + 1))
  where
    go : (y < first) ⊎ (first ≤ y) → (y < last + 1) ⊎ (last + 1 ≤ y) → (nat_lt y (last + 1) && not (nat_lt y first)) ≡ (nat_le first y && nat_le y last)
    go (inl below) (inl low) = rw (lt-ltb y first below, lt-ltb y (last + 1) low, lt-leb first y below) refl
    go (inl below) (inr high) = rw (lt-ltb y first below, le-ltb y (last + 1) high, lt-leb first y below) refl
    go (inr above) (inl low) = rw (le-ltb y first above, lt-ltb y (last + 1) low, le-leb first y above, le-leb y last (omega arith)) refl
    go (inr above) (inr high) = rw (le-ltb y (last + 1) high, le-leb first y above, lt-leb y last (omega arith)) refl
