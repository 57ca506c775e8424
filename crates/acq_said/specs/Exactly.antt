-- When a command has broken off.
use Rattle.std.specs.Prelude.{◌≡◌, ◌⊎◌}
use Rattle.acq_said.specs.Prelude.{Ending}
use Rattle.acq_loop.specs.declared.ending.Ending.TheVariants as ending

-- the input, the output or the disk failed, or memory was wanting
abbrev pub IsBrokenOff : Ending → Type 0
IsBrokenOff end = (end ≡ ending.ReadFault) ⊎ (end ≡ ending.WriteFault) ⊎ (end ≡ ending.DiskFault)
    ⊎ (end ≡ ending.Memory)
