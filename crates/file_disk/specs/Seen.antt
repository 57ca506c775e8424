-- The length that a file had when it was last asked for or written, beside its bytes.
use Rattle.std.specs.Prelude.{ℕ, ◌-◌, ◌^◌, ◌≡◌, ◌≢◌, min, List, length, Option, Some, IsSomeAnd}
use Rattle.std.specs.Option.{ForSome}

-- one was seen, and where the file tells its bytes they are more or fewer
abbrev pub HasAnotherLength : Option ℕ → Option (List ℕ) → Type 0
HasAnotherLength seen content = IsSomeAnd seen (λ n. ForSome content (λ bytes. n ≢ length bytes))

-- The file's own length was seen, where it tells its bytes. A length is counted up to the last
-- number of 64 bits.
abbrev pub IsLengthOf : Option ℕ → Option (List ℕ) → Type 0
IsLengthOf seen content = ForSome content (λ bytes. seen ≡ Some (min (length bytes) (2 ^ 64 - 1)))
