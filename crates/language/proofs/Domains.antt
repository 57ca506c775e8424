-- What a domain's bounds say.
use Rattle.language.proofs.Prelude.{◌≡◌, ℕ, ◌≤◌, ℤ, pos, negsuc, ◌+ℤ◌, ◌-ℤ◌, ◌<ℤ◌, ◌≤ℤ◌, true, arith, ints, is_domain}

-- values from the first to the last, each within a million, 64 at most
pub record IsDomain (lo hi : ℤ) : Type 0 where
  pub rises : lo ≤ℤ hi
  pub low : negsuc 999999 ≤ℤ lo
  pub high : hi ≤ℤ pos 1000000
  pub few : (hi -ℤ lo) ≤ℤ pos 63

pub domain_is : (lo hi : ℤ) → is_domain lo hi ≡ true → IsDomain lo hi
domain_is lo hi domain = record { rises = grind (arith, ints); low = grind (arith, ints); high = grind (arith, ints); few = grind (arith, ints) }

-- from the least of a frame's values to one of them
pub domain_within : (lo shown : ℤ) (d : ℕ) → negsuc 999999 ≤ℤ lo → (lo +ℤ pos d) ≤ℤ pos 1000001 → d ≤ 64 → lo ≤ℤ shown → shown <ℤ (lo +ℤ pos d) → is_domain lo shown ≡ true
domain_within lo shown d low high few from below = grind (arith, ints)
