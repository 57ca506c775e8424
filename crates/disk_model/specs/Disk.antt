-- What the calls of a disk do to its file, and what a crash may do between two syncs.
use Rattle.std.specs.Prelude.{ℕ, ◌+◌, ◌-◌, ◌^◌, ◌≤◌, ◌≡◌, ◌⊎◌, min, max, List, ◌++◌, length, take}
use Rattle.std.specs.Prelude.{drop, Option, Some, Result, IsErr, OnOk}

-- new is old with these bytes at this place
abbrev pub Holds : List ℕ → ℕ → List ℕ → List ℕ → Type 0
Holds old at bytes new = new ≡ take at old ++ bytes ++ drop (at + length bytes) old

-- After a write of n bytes that a crash cuts short: any bytes in the range and past the old end,
-- the same elsewhere.
pub record Torn (at n : ℕ) (old new : List ℕ) : Type 0 where
  pub before : take at new ≡ take at old
  pub after : drop (at + n) new ≡ drop (at + n) old
  pub no_shorter : length old ≤ length new
  pub no_longer : length new ≤ max (length old) (at + n)

-- What a read gives after a write: after Ok all of it, and otherwise it may be there in part.
pub record IsWritten {T E : Type 0} (at : ℕ) (bytes old : List ℕ) (content : Option (List ℕ))
    (result : Result T E) : Type 0 where
  pub now : List ℕ
  pub tells : content ≡ Some now
  pub torn : Torn at (length bytes) old now
  pub whole : OnOk result (Holds old at bytes now)

-- each content that a crash may leave now is one that it might have left before, after a step
abbrev pub Follows : (List ℕ → List ℕ → Type 0) → (List ℕ → Type 0) → (List ℕ → Type 0) → Type 0
Follows step old new = (c : List ℕ) → new c → (d : List ℕ) × old d × step d c

-- a crash leaves this and nothing else
abbrev pub Only : List ℕ → (List ℕ → Type 0) → Type 0
Only content may_leave = (c : List ℕ) → may_leave c → c ≡ content

-- nothing that a crash may leave now is new
abbrev pub AddsNothing : (List ℕ → Type 0) → (List ℕ → Type 0) → Type 0
AddsNothing old new = (c : List ℕ) → new c → old c

-- Time goes on: a crash since t might have left what it might have left before, or what it may
-- leave now.
pub record Elapses (before now : ℕ) (past since : ℕ → List ℕ → Type 0) (may_leave : List ℕ →
    Type 0) : Type 0 where
  pub later : before ≤ now
  pub nothing_else : (t : ℕ) (c : List ℕ) → t ≤ before → since t c → past t c ⊎ may_leave c
  pub keeps : (t : ℕ) (c : List ℕ) → t ≤ before → past t c → since t c

-- a count of faults rose, or it stands at its last value
abbrev pub Rose : ℕ → ℕ → Type 0
Rose before now = min (before + 1) (2 ^ 64 - 1) ≤ now

-- So many calls more are counted, or the count stands at its last value.
pub record AreCalls (n before now : ℕ) : Type 0 where
  pub at_most : now ≤ before + n
  pub at_least : min (before + n) (2 ^ 64 - 1) ≤ now

-- A call fails only where the count of faults rose in it.
pub record HasCause {T E : Type 0} (before now : ℕ) (result : Result T E) : Type 0 where
  pub later : before ≤ now
  pub failed : IsErr result → Rose before now
