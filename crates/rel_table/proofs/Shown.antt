-- What is known of a shown value.
use Rattle.rel_table.proofs.Prelude.{◌≡◌, ℕ, ℤ, pos, ◌+ℤ◌, ◌<ℤ◌, ◌≤ℤ◌, true, arith, and_parts, ints, int_le, int_lt, is_shown}

-- it is one of d values from lo on
pub record IsShown (lo : ℤ) (d : ℕ) (x : ℤ) : Type 0 where
  pub low : lo ≤ℤ x
  pub high : x <ℤ (lo +ℤ pos d)

pub shown_is : (lo : ℤ) (d : ℕ) (x : ℤ) → is_shown lo d x ≡ true → IsShown lo d x
shown_is lo d x shown =
    let both = and_parts (int_le lo x) (int_lt x (lo +ℤ pos d)) shown in
    let low : int_le lo x ≡ true = both.0 in
    let high : int_lt x (lo +ℤ pos d) ≡ true = both.1 in
    record { low = grind (arith, ints); high = grind (arith, ints) }
