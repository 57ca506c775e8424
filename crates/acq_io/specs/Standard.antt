-- An adapter of std: what it reads from or writes to, and what it counts.
use Rattle.std.specs.Prelude.{ℕ}

-- the reader, and how many calls have failed, and how many came after one that had
pub record Counted (R : Type 0) : Type 0 where
  pub inner : R
  pub faults : ℕ
  pub late : ℕ

-- the writer, and how many calls have failed
pub record Writing (W : Type 0) : Type 0 where
  pub inner : W
  pub faults : ℕ
