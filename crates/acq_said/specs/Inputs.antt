-- What a command says of its input, which it reads to the end.
use Rattle.std.specs.Prelude.{◌≡◌}
use Rattle.acq_said.specs.Prelude.{ℕ, List, Option, Result, Ok, Err, Gives, all_of, AllFault}
use Rattle.acq_io.specs.declared.whole.AllFault.TheVariants as all
use Rattle.acq_said.specs.Saying.{Saying}
use Rattle.acq_said.specs.declared.said.Unsaid.{Unsaid}
use Rattle.acq_said.specs.declared.said.Unsaid.TheVariants as unsaid

-- by what the input gave: its bytes, or too many of them, of which something is said; where it
-- failed, or memory was wanting, nothing is
abbrev pub SaysOfRead : ℕ → (Result (List ℕ) AllFault → Result Saying Unsaid → Type 0) →
    (left left' : Option (List ℕ)) → Result Saying Unsaid → Result (List ℕ) AllFault → Type 0
SaysOfRead most Says left left' said (Ok bytes) = Gives (all_of most) left left' (Ok bytes)
    × Says (Ok bytes) said
SaysOfRead most Says left left' said (Err all.TooLong) =
    Gives (all_of most) left left' (Err all.TooLong) × Says (Err all.TooLong) said
SaysOfRead most Says left left' said (Err all.Fault) = said ≡ Err unsaid.ReadFault
SaysOfRead most Says left left' said (Err all.Memory) = said ≡ Err unsaid.Memory

-- of an input of at most so many bytes
abbrev pub SaysOfInput : ℕ → (Result (List ℕ) AllFault → Result Saying Unsaid → Type 0) →
    (left left' : Option (List ℕ)) → Result Saying Unsaid → Type 0
SaysOfInput most Says left left' said = (read : Result (List ℕ) AllFault)
    × SaysOfRead most Says left left' said read
