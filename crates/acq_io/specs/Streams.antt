-- What sources and sinks tell of their bytes, and how their faults are counted.
use Rattle.std.specs.Prelude.{◌≡◌, ℕ, ◌+◌, ◌-◌, ◌^◌, ◌≤◌, ◌<◌, min, List, [], ◌++◌, Option}
use Rattle.std.specs.Option.{option_map}

-- a count that is raised by one, and stays at its type's last value
abbrev pub raised : ℕ → ℕ
raised count = min (count + 1) (2 ^ 64 - 1)

-- the count has risen, or stands at its last value
abbrev pub Rose : ℕ → ℕ → Type 0
Rose before now = raised before ≤ now

-- where the bytes are told, this piece was taken from their front
abbrev pub Takes : Option (List ℕ) → Option (List ℕ) → List ℕ → Type 0
Takes before now piece = before ≡ option_map (λ rest. piece ++ rest) now

-- where the bytes are told, there were none
abbrev pub WasEmpty : Option (List ℕ) → Type 0
WasEmpty before = before ≡ option_map (λ _. []) before

-- where the bytes are told, this piece was added at their end
abbrev pub Adds : Option (List ℕ) → Option (List ℕ) → List ℕ → Type 0
Adds before now piece = now ≡ option_map (λ written. written ++ piece) before

-- where the bytes are told, a front of this piece was added at their end
abbrev pub AddsFront : Option (List ℕ) → Option (List ℕ) → List ℕ → Type 0
AddsFront before now piece = (front : List ℕ) × (back : List ℕ) × (piece ≡ front ++ back)
    × Adds before now front

-- where the bytes are told, some were taken from their front, or none
abbrev pub TakesSome : Option (List ℕ) → Option (List ℕ) → Type 0
TakesSome before now = (piece : List ℕ) × Takes before now piece

-- where the bytes are told, this piece was added at their end, and maybe more behind it
abbrev pub AddsOn : Option (List ℕ) → Option (List ℕ) → List ℕ → Type 0
AddsOn before now piece = (more : List ℕ) × Adds before now (piece ++ more)

-- How an input stands after calls on it: its faults never fall, and rise where one is told. Where
-- it hadn't failed before, it has failed only where a fault is told, and it wasn't called again
-- after that.
pub record HasCalled (faults faults' late late' : ℕ) (told : Type 0) : Type 0 where
  pub later : faults ≤ faults'
  pub rose : told → Rose faults faults'
  pub well : faults ≡ 0 → (told → ⊥) → faults' ≡ 0
  pub stopped : faults ≡ 0 → late' ≡ late

-- The same, of calls after which no more come.
pub record HasStopped (faults faults' late late' : ℕ) (told : Type 0) : Type 0 where
  pub later : faults ≤ faults'
  pub rose : told → Rose faults faults'
  pub stopped : faults ≡ 0 → late' ≡ late

-- A call is late where one before it has failed: only then does the count of late calls rise.
pub record IsLate (faults before now : ℕ) : Type 0 where
  pub on_time : faults ≡ 0 → now ≡ before
  pub late : 0 < faults → now ≡ raised before
