-- How the program ends.
use Rattle.std.specs.Prelude.{◌≡◌}
use Rattle.acq_loop.specs.Prelude.{ℕ, Result, Ok, Err, Rose, DiskRose, Put}
use Rattle.acq_loop.specs.declared.ending.Ending.{Ending}
use Rattle.acq_loop.specs.declared.ending.Ending.TheVariants as ending
use Rattle.acq_io.specs.declared.streams.Put.TheVariants as put

-- the ending of the program, where the output may have failed or memory was wanted
abbrev pub ended_as : Result Ending Put → Ending
ended_as (Ok end) = end
ended_as (Err put.Failed) = ending.WriteFault
ended_as (Err put.Memory) = ending.Memory

-- A fault of the input, the output or the disk is told only where its count has risen. Of an input
-- that hadn't failed before, one is told wherever it has failed, and it isn't called again.
pub record TellsCauses (input input' late late' output output' disk disk' : ℕ) (end : Ending) :
    Type 0 where
  pub read : end ≡ ending.ReadFault → Rose input input'
  pub well : input ≡ 0 → (end ≡ ending.ReadFault → ⊥) → input' ≡ 0
  pub stopped : input ≡ 0 → late' ≡ late
  pub write : end ≡ ending.WriteFault → Rose output output'
  pub lost : end ≡ ending.DiskFault → DiskRose disk disk'

-- the exit status
abbrev pub status_of : Ending → ℕ
status_of (ending.Converged m) = 0
status_of (ending.Usage fault) = 1
status_of ending.Done = 0
status_of (ending.VocRefused fault) = 2
status_of (ending.JournalRefused fault) = 3
status_of (ending.Collapsed m) = 4
status_of (ending.Undecided m) = 5
status_of (ending.Suspended m) = 6
status_of ending.LineTooLong = 7
status_of ending.Unreadable = 7
status_of ending.ReadFault = 8
status_of ending.WriteFault = 9
status_of ending.DiskFault = 10
status_of ending.Memory = 11
status_of ending.JournalFull = 12
status_of (ending.NotFresh m) = 13
status_of (ending.TargetRefused fault) = 14
status_of ending.NothingBack = 15
status_of (ending.ReduceSpent i) = 20
status_of ending.CnfTooLarge = 21
status_of (ending.ModelRefused fault) = 22
status_of (ending.NotConverged m) = 16
status_of (ending.CertRefused fault) = 17
status_of (ending.Flawed flaw) = 18
status_of (ending.CertUnread fault) = 19
