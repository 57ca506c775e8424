-- How the endings of the loop and of the program are tied to how a run closes.
use Rattle.acq_loop.specs.Prelude.{ℕ, Option, Some, None, Result, Ok, Err, Put}
use Rattle.acq_io.specs.declared.streams.Put.TheVariants as put
use Rattle.acq_loop.specs.Run.{Closing, Converged, Collapsed, Undecided, Suspended, LineTooLong}
use Rattle.acq_loop.specs.Run.{Unreadable, JournalFull}
use Rattle.acq_loop.specs.declared.driving.Drove.{Drove}
use Rattle.acq_loop.specs.declared.driving.Drove.TheVariants as drove
use Rattle.acq_loop.specs.declared.ending.Ending.{Ending}
use Rattle.acq_loop.specs.declared.ending.Ending.TheVariants as ending

-- how a run closes where the loop ends so; none where something failed
abbrev pub closing_of : Drove → Option Closing
closing_of (drove.Converged m) = Some Converged
closing_of (drove.Collapsed m) = Some Collapsed
closing_of (drove.Undecided m) = Some Undecided
closing_of (drove.Suspended m) = Some Suspended
closing_of drove.LineTooLong = Some LineTooLong
closing_of drove.Unreadable = Some Unreadable
closing_of drove.JournalFull = Some JournalFull
closing_of how = None

-- the number that is told then
abbrev pub told_number : Drove → Option ℕ
told_number (drove.Converged m) = Some m
told_number (drove.Collapsed m) = Some m
told_number (drove.Undecided m) = Some m
told_number (drove.Suspended m) = Some m
told_number how = None

-- how the program ends then, where its last lines are taken
abbrev pub ending_of : Drove → Result Ending Put
ending_of (drove.Converged m) = Ok (ending.Converged m)
ending_of (drove.Collapsed m) = Ok (ending.Collapsed m)
ending_of (drove.Undecided m) = Ok (ending.Undecided m)
ending_of (drove.Suspended m) = Ok (ending.Suspended m)
ending_of drove.LineTooLong = Ok ending.LineTooLong
ending_of drove.Unreadable = Ok ending.Unreadable
ending_of drove.ReadFault = Ok ending.ReadFault
ending_of drove.WriteFault = Err put.Failed
ending_of drove.DiskFault = Ok ending.DiskFault
ending_of drove.JournalFull = Ok ending.JournalFull
ending_of drove.Memory = Err put.Memory
