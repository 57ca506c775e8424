-- A record of the writes and syncs of a file, and what it says of the file: what a read gives, and
-- what a crash may leave.
use Rattle.std.specs.Prelude.{ℕ, ◌+◌, ◌≤◌, ◌≡◌, Bool, true, nat_le, ◌&&◌, List, [], ◌∷◌, ◌++◌}
use Rattle.std.specs.Prelude.{length, take, drop}
use Rattle.disk_model.specs.Disk.{Torn}
use Rattle.disk_model.specs.declared.tape.Mark.{Mark}
use Rattle.disk_model.specs.declared.tape.Mark.TheVariants.{Write, Sync}

-- a write of these bytes at this place, or a sync
pub data Step : Type 0 where
  Wrote : ℕ → List ℕ → Step
  Synced : Step

-- these bytes in the place of those that stand there, or past the end
abbrev pub put : List ℕ → ℕ → List ℕ → List ℕ
put old at bytes = take at old ++ bytes ++ drop (at + length bytes) old

-- what a read gives after the steps
abbrev pub content_after : List ℕ → List Step → List ℕ
content_after now [] = now
content_after now (Wrote at bytes ∷ steps) = content_after (put now at bytes) steps
content_after now (Synced ∷ steps) = content_after now steps

-- what a crash may leave after the steps, where it might have left what has P before them
abbrev pub IsImage : (List ℕ → Type 0) → List ℕ → List Step → List ℕ → Type 0
IsImage P now [] c = P c
IsImage P now (Wrote at bytes ∷ steps) c =
    IsImage (λ d. (e : List ℕ) × P e × Torn at (length bytes) e d) (put now at bytes) steps c
IsImage P now (Synced ∷ steps) c = IsImage (λ d. d ≡ now) now steps c

-- each write begins within the file or at its end
abbrev pub are_within : List ℕ → List Step → Bool
are_within now [] = true
are_within now (Wrote at bytes ∷ steps) =
    nat_le at (length now) && are_within (put now at bytes) steps
are_within now (Synced ∷ steps) = are_within now steps

-- the marks, each with its bytes
abbrev pub steps_of : List Mark → List ℕ → List Step
steps_of [] written = []
steps_of (Write at len ∷ marks) written =
    Wrote at (take len written) ∷ steps_of marks (drop len written)
steps_of (Sync ∷ marks) written = Synced ∷ steps_of marks written

-- how many bytes the marks speak of
abbrev pub bytes_in : List Mark → ℕ
bytes_in [] = 0
bytes_in (Write at len ∷ marks) = len + bytes_in marks
bytes_in (Sync ∷ marks) = bytes_in marks

-- what a crash may leave now
abbrev pub Leaves : List ℕ → List Step → List ℕ → Type 0
Leaves start steps = IsImage (λ c. c ≡ start) start steps

-- a write that was made up to some of its bytes, from the front on
pub record CutShort (at : ℕ) (bytes old new : List ℕ) : Type 0 where
  pub begins : at ≤ length old
  pub count : ℕ
  pub is : new ≡ put old at (take count bytes)

-- what is left where each write since the last sync was cut short, or none was, and what has P was
-- there before
abbrev pub IsCut : (List ℕ → Type 0) → List ℕ → List Step → List ℕ → Type 0
IsCut P now [] c = P c
IsCut P now (Wrote at bytes ∷ steps) c =
    IsCut (λ d. (e : List ℕ) × P e × CutShort at bytes e d) (put now at bytes) steps c
IsCut P now (Synced ∷ steps) c = IsCut (λ d. d ≡ now) now steps c

-- what is left after the steps, where a crash cut writes short
abbrev pub LeavesCut : List ℕ → List Step → List ℕ → Type 0
LeavesCut start steps = IsCut (λ c. c ≡ start) start steps

-- what a crash might have left after the step with this number, or a later one
abbrev pub LeftSince : List ℕ → List Step → ℕ → List ℕ → Type 0
LeftSince start steps t c = (k : ℕ) × (t ≤ k) × (k ≤ length steps) × Leaves start (take k steps) c
