-- Logarithms, rounded up, and how many replies were no.
use Rattle.std.specs.Prelude.{ℕ, ◌^◌, nat_le, Bool, not, List, find, unwrap_or, count_by}
use Rattle.assign.specs.Sets.{numbers}

-- the least k with n at most 2^k
abbrev pub log_up : ℕ → ℕ
log_up n = unwrap_or (find (λ k. nat_le n (2 ^ k)) (numbers n)) 0

-- how many of the replies are no
abbrev pub noes : List Bool → ℕ
noes replies = count_by not replies
