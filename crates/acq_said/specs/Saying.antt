-- A text and an ending.
use Rattle.acq_said.specs.Prelude.{ℕ, Bool, true, false, List, Ending}
use Rattle.acq_loop.specs.declared.ending.Ending.TheVariants as ending

pub record Saying : Type 0 where
  pub text : List ℕ
  pub ending : Ending

abbrev pub saying : List ℕ → Ending → Saying
saying text end = record { text = text; ending = end }

-- whether an ending is told with a text: it is no fault of the input, the output or the disk, and
-- no want of memory
abbrev pub is_told : Ending → Bool
is_told ending.ReadFault = false
is_told ending.WriteFault = false
is_told ending.DiskFault = false
is_told ending.Memory = false
is_told end = true
