-- What was said, or why nothing was, and what was written of it.
use Rattle.std.specs.Prelude.{◌≡◌}
use Rattle.acq_said.specs.Prelude.{ℕ, List, Option, Result, Ok, Err, Adds, AddsFront, Put, Ending}
use Rattle.acq_said.specs.Prelude.{MatchResult}
use Rattle.acq_io.specs.declared.streams.Put.TheVariants as put
use Rattle.acq_said.specs.Saying.{Saying}
use Rattle.acq_loop.specs.declared.ending.Ending.TheVariants as ending
use Rattle.acq_said.specs.declared.said.Unsaid.{Unsaid}
use Rattle.acq_said.specs.declared.said.Unsaid.TheVariants as unsaid

-- ---- What is said

-- this was said; or memory was wanting, and nothing was
abbrev pub IsSaid : Saying → Result Saying Unsaid → Type 0
IsSaid what said = MatchResult said (λ s. s ≡ what) (λ why. why ≡ unsaid.Memory)

-- what was made in memory, where there was enough
abbrev pub or_silent : {E : Type 0} → Result Saying E → Result Saying Unsaid
or_silent (Ok what) = Ok what
or_silent (Err e) = Err unsaid.Memory

-- how a command ends without a word
abbrev pub silent_end : Unsaid → Result Ending Put
silent_end unsaid.ReadFault = Ok ending.ReadFault
silent_end unsaid.DiskFault = Ok ending.DiskFault
silent_end unsaid.Memory = Err put.Memory

-- ---- What is written of it

-- What was said was written, and the command ended as it says. Or the output failed, and a front of
-- it was written; or there was no memory for it, and nothing was. Where nothing was said, nothing
-- is.
abbrev pub HasWritten : Result Saying Unsaid → (written written' : Option (List ℕ)) →
    Result Ending Put → Type 0
HasWritten (Ok what) written written' (Ok e) = (e ≡ what.ending) × Adds written written' what.text
HasWritten (Ok what) written written' (Err put.Failed) = AddsFront written written' what.text
HasWritten (Ok what) written written' (Err put.Memory) = written' ≡ written
HasWritten (Err why) written written' got = (got ≡ silent_end why) × (written' ≡ written)

-- a command has said so, and written that
abbrev pub SaysSo : (Result Saying Unsaid → Type 0) → (written written' : Option (List ℕ)) →
    Result Ending Put → Type 0
SaysSo Spoke written written' got = (said : Result Saying Unsaid) × Spoke said
    × HasWritten said written written' got
