-- What a disk in memory shows.
use Rattle.std.specs.Prelude.{ℕ, ◌+◌, ◌^◌, ◌-◌, ◌≤◌, ◌<◌, ◌≡◌, ◌⊎◌, min, List, [], length, Some}
use Rattle.std.specs.Prelude.{Any, Bool, if◌then◌else◌, refl}
use Rattle.std.specs.Option.{ForSome}
use Rattle.std.proofs.Common.{sym, subst, ◌∙◌}
use Rattle.disk_model.specs.declared.mem_disk.Room.{Room}
use Rattle.disk_model.specs.declared.mem_disk.MemDisk.{MemDisk}
use Rattle.disk_model.specs.Record.{Step, Leaves, LeftSince}
use Rattle.disk_model.specs.Images.{image-content, counts_now, only_now}
use Rattle.disk_model.specs.Tape.{tape_steps}

-- the bytes of the file
abbrev pub content_of : MemDisk → List ℕ
content_of d = d.tape.content.items

-- its bytes at first
abbrev pub start_of : MemDisk → List ℕ
start_of d = d.tape.start.items

-- the writes and syncs that were made since, in order
abbrev pub steps_in : MemDisk → List Step
steps_in d = tape_steps d.tape

-- how many there were
abbrev pub moment_of : MemDisk → ℕ
moment_of d = length (steps_in d)

-- what a crash may leave now
abbrev pub images_of : MemDisk → List ℕ → Type 0
images_of d = Leaves (start_of d) (steps_in d)

-- what a crash might have left since a moment
abbrev pub left_of : MemDisk → ℕ → List ℕ → Type 0
left_of d = LeftSince (start_of d) (steps_in d)

-- how much it holds
abbrev pub room_of : MemDisk → Room
room_of d = d.tape.room

-- the numbers of the calls that fail
abbrev pub fails_of : MemDisk → List ℕ
fails_of d = d.fails.items

-- how many calls were made
abbrev pub calls_of : MemDisk → ℕ
calls_of d = d.calls

-- how many of them failed
abbrev pub faults_of : MemDisk → ℕ
faults_of d = d.faults

-- A disk as it is made.
pub record IsFresh (content fails : List ℕ) (room : Room) (d : MemDisk) : Type 0 where
  pub has : content_of d ≡ content
  pub start : start_of d ≡ content
  pub blank : steps_in d ≡ []
  pub same_room : room_of d ≡ room
  pub same_fails : fails_of d ≡ fails
  pub no_calls : calls_of d ≡ 0
  pub no_faults : faults_of d ≡ 0

-- the next call is one of those that fail
abbrev pub FailsNext : MemDisk → Type 0
FailsNext d = Any (λ k. k ≡ calls_of d) (fails_of d)

-- as many writes and syncs were made as there is room for
abbrev pub IsWornOut : MemDisk → Type 0
IsWornOut d = (room_of d).calls ≤ moment_of d

-- a write of n bytes at this place outgrows the room of the file, or that of all bytes that are
-- written
abbrev pub Outgrows : MemDisk → ℕ → ℕ → Type 0
Outgrows d at n = ((room_of d).bytes < at + n)
    ⊎ ((room_of d).bytes < length d.tape.written.items + n)

-- the file, the record and the room are as they were
abbrev pub HasSameRecord : MemDisk → MemDisk → Type 0
HasSameRecord old new = new.tape ≡ old.tape

-- One call more was counted, and one fault more where there was one.
pub record IsCounted (old new : MemDisk) (is_fault : Bool) : Type 0 where
  pub same_fails : fails_of new ≡ fails_of old
  pub one_more : calls_of new ≡ min (calls_of old + 1) (2 ^ 64 - 1)
  pub no_fewer : faults_of old ≤ faults_of new
  pub faults_are : faults_of new
      ≡ (if is_fault then min (faults_of old + 1) (2 ^ 64 - 1) else faults_of old)

-- ---- what a disk in memory keeps of the trait's laws

pub tells_truth : (d : MemDisk) → ForSome (Some (content_of d)) (images_of d)
tells_truth d bytes is = subst (images_of d) (sym d.tape.kept
    ∙ cc) (image-content (λ c. c ≡ start_of d) (start_of d) (steps_in d) refl d.tape.within)

pub counts : (d : MemDisk) (t : ℕ) (c : List ℕ) → t ≤ moment_of d → images_of d c → left_of d t c
counts d = counts_now (start_of d) (steps_in d)

pub only : (d : MemDisk) (c : List ℕ) → left_of d (moment_of d) c → images_of d c
only d = only_now (start_of d) (steps_in d)
