-- Contents that a crash may leave, listed from the record of a file.
use Rattle.std.specs.Prelude.{ℕ, ◌<◌, ◌≡◌, List, length, map, slice_index_or, All, Contains, Vec}
use Rattle.std.specs.declared.alloc.Global.{Global}
use Rattle.disk_model.specs.Disk.{Torn}
use Rattle.disk_model.specs.Record.{Step, Wrote, Synced, content_after, CutShort, Leaves, LeavesCut}
use Rattle.disk_model.specs.declared.tape.Mark.{Mark}
use Rattle.disk_model.specs.declared.tape.Mark.TheVariants.{Write, Sync}

-- each of these is a content that a crash after the steps may leave
abbrev pub AreImages : List ℕ → List Step → List (Vec ℕ Global) → Type 0
AreImages start steps images = All (λ image. Leaves start steps image.items) images

abbrev pub contents : List (Vec ℕ Global) → List (List ℕ)
contents images = map (λ v. v.items) images

-- each content that cut writes leave after the steps is one of these
abbrev pub HaveCuts : List ℕ → List Step → List (Vec ℕ Global) → Type 0
HaveCuts start steps images = (c : List ℕ) → LeavesCut start steps c → Contains (contents images) c

-- so is each that a write of these bytes leaves of one content, if it is cut short
abbrev pub HaveCutsOf : ℕ → List ℕ → List ℕ → List (Vec ℕ Global) → Type 0
HaveCutsOf at bytes content torn = (c : List ℕ) → CutShort at bytes content c →
    Contains (contents torn) c

-- and of each of the images
abbrev pub HaveAllCuts : ℕ → List ℕ → List (Vec ℕ Global) → List (Vec ℕ Global) → Type 0
HaveAllCuts at bytes images torn = (d : List ℕ) → Contains (contents images) d →
    HaveCutsOf at bytes d torn

-- a write of n bytes may make each of these of that content
abbrev pub AreTorn : ℕ → ℕ → List ℕ → List (Vec ℕ Global) → Type 0
AreTorn at n content torn = All (λ c. Torn at n content c.items) torn

-- what a write of n bytes may make of one of the images
abbrev pub IsTornOf : ℕ → ℕ → List (Vec ℕ Global) → Vec ℕ Global → Type 0
IsTornOf at n images torn = (k : ℕ) × (k < length images)
    × Torn at n (slice_index_or images k torn).items torn.items

-- how many bytes a mark speaks of
abbrev pub mark_bytes : Mark → ℕ
mark_bytes (Write at len) = len
mark_bytes Sync = 0

-- the step of a mark with its bytes
abbrev pub step_of : Mark → List ℕ → Step
step_of (Write at len) bytes = Wrote at bytes
step_of Sync bytes = Synced

-- This is what a read gives after the steps, and these a crash may leave.
pub record IsReplay (start : List ℕ) (steps : List Step) (now : List ℕ)
    (images : List (Vec ℕ Global)) : Type 0 where
  pub reads : now ≡ content_after start steps
  pub each : AreImages start steps images
  pub cuts : HaveCuts start steps images
