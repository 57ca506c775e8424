-- How many calls to a disk the reading of a file takes.
use Rattle.std.specs.Prelude.{ℕ, ◌+◌, ◌*◌, ◌≤◌, ◌≡◌, ◌⊎◌, List, length}

-- at most so many calls, and one more for each 4,194,047 bytes of the file
abbrev pub AreReadingCalls : (most before now : ℕ) → List ℕ → Type 0
AreReadingCalls most before now bytes = 4194047 * now ≤ 4194047 * (before + most) + length bytes

-- a buffer of this size is the largest, or it takes the file whole
abbrev pub TakesPieces : ℕ → List ℕ → Type 0
TakesPieces size bytes = (size ≡ 4194311) ⊎ (length bytes ≤ size)
