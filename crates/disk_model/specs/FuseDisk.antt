-- What a disk with a fuse shows.
use Rattle.std.specs.Prelude.{ℕ, Bool, ◌+◌, ◌-◌, ◌^◌, ◌≡◌, ◌≤◌, min, Result, MatchResult}
use Rattle.disk_model.specs.declared.fuse_disk.FuseDisk.{FuseDisk}
use Rattle.disk_model.specs.declared.mem_disk.MemDisk.{MemDisk}
use Rattle.disk_model.specs.MemDisk as mem_disks

-- the disk within
abbrev pub inner_of : FuseDisk → MemDisk
inner_of d = d.inner

-- how many calls it still passes
abbrev pub passes_of : FuseDisk → ℕ
passes_of d = d.passes

-- how often it was called, if the disk within was new to calls: those that were passed on, and
-- those that failed since then
abbrev pub calls_of : FuseDisk → ℕ
calls_of d = mem_disks.calls_of d.inner + d.blown

-- how often it or the disk within has failed
abbrev pub faults_of : FuseDisk → ℕ
faults_of d = mem_disks.faults_of d.inner + d.blown

-- A pass was taken, or none was left.
pub record IsBurnt {T E : Type 0} (old new : FuseDisk) (result : Result T E) : Type 0 where
  pub same : new.inner ≡ old.inner
  pub fewer : new.passes ≡ old.passes - 1
  pub which : MatchResult result (λ _. (1 ≤ old.passes) × (new.blown ≡ old.blown)) (λ _.
      (old.passes ≡ 0) × (new.blown ≡ min (old.blown + 1) (2 ^ 64 - 1)))
  pub more : old.blown ≤ new.blown

-- Where a pass is left, the disk within was called once, and else it is as it was.
pub record HasPassed (old new : FuseDisk) (failed : Bool) : Type 0 where
  pub one : 1 ≤ old.passes → mem_disks.IsCounted old.inner new.inner failed
  pub none : old.passes ≡ 0 → new.inner ≡ old.inner
