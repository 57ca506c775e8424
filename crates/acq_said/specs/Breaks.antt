-- How a run breaks off.
use Rattle.std.specs.Prelude.{◌⊎◌}
use Rattle.acq_said.specs.Prelude.{ℕ, List, Option, ForSome, AddsFront, Event, Language}
use Rattle.acq_said.specs.Prelude.{standing_on, Turns, IsRunCutShort, IsWholeRun, point_of, Closing}
use Rattle.acq_said.specs.Prelude.{closing_text, Terms}

-- before it was closed, and then none of its last lines was written; or it was closed, and of these
-- a front was written
abbrev pub BreaksRun : Turns → Language → Terms → (start events : List Event) →
    (left written left' written' : Option (List ℕ)) → Type 0
BreaksRun turns l terms start events left written left' written' =
    ForSome left (λ bytes. IsRunCutShort turns l terms bytes (point_of start left written)
    (point_of events left' written'))
    ⊎ ((closing : Closing) × (middle : Option (List ℕ)) × ForSome left (λ bytes. IsWholeRun turns l
    terms bytes closing (point_of start left written) (point_of events left' middle))
    × AddsFront middle written' (closing_text l terms (standing_on l events) closing))
