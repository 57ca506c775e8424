-- What a crash leaves of a file that was to be synced.
use Rattle.std.specs.Prelude.{ℕ, ◌+◌, ◌≤◌, ◌⊎◌, List}
use Rattle.disk_model.specs.Disk.{Only}
use Rattle.disk_model.specs.declared.disk.Disk.{Ghosts as DiskOf}

-- the meanings of a disk
module _ {D : Type 0} (disk : DiskOf D) where
  -- A sync passed, and a crash leaves only what a read gives. Or the sync failed, and no other call
  -- was made.
  abbrev pub IsSynced : (has_failed : Type 0) → (old new : D) → List ℕ → Type 0
  IsSynced has_failed old new bytes = Only bytes (disk.may_leave new)
      ⊎ (has_failed × (disk.calls new ≤ disk.calls old + 1))
